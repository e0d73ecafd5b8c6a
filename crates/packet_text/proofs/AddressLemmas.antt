-- Addresses written into a buffer: the numbers of an IPv4 address, each after a dot, and the groups of an IPv6 address.
use Rattle.std.proofs.Common.{◌≡◌, ℕ, zero, suc, ◌+◌, ◌-◌, ◌*◌, ◌/◌, ◌%◌, ◌<◌, ◌≤◌, List, [], ◌∷◌, ◌++◌, drop, get_or, length, set, slice_range, take}
use Rattle.std.proofs.Common.{Bool, true, false, true≢false, nat_le, nat_lt, if◌then◌else◌, ◌&&◌, T, eqb, eqb→eq, inl, inr, eq-zero-or-pos}
use Rattle.std.proofs.Common.{bytes_eq, flat_map, refl, sym, subst, ap, ◌∙◌, arith, append_assoc, codes}
use lib.Ieee.Fits.{and_l, and_r}
use Rattle.packet_text.specs.Addresses.{hex_digit, hex_pair}
use Rattle.packet_text.specs.declared.addresses.TheConstants.{DOTTED_OCTETS, HEX_PAIRS}
use Rattle.std.specs.Fmt.{decimal}
use Rattle.std.specs.Net.Text.{groups_text, hex, hex_groups_text, longest_zero_run}
use Rattle.std.proofs.lemmas.Bool.{cases_lt}
use Rattle.std.proofs.lemmas.Bool.Decides.{nat_tests}
use Rattle.std.proofs.lemmas.Fmt.{decimal_digit, decimal_step}
use Rattle.std.proofs.lemmas.Grind.{common_steps}
use Rattle.std.proofs.lemmas.List.{append-nil, drop-append-le, drop-set, drop-take, length-drop, length-set, take-append-le, take_all}
use Rattle.std.proofs.lemmas.Slice.Eq.{bytes_eq-Decides}
use Rattle.std.proofs.Math.Seq.{drop-append-add, take-append-add}

two_digits : (number : ℕ) → 10 ≤ number → number < 100
    → decimal number ≡ (48 + number / 10) ∷ (48 + number % 10) ∷ []
two_digits number least most =
    decimal_step number least (omega (arith, most))
    ∙ ap (λ d. d ++ (48 + number % 10) ∷ []) (decimal_digit (number / 10) (omega (arith, most)))

three_digits : (number : ℕ) → 100 ≤ number → number < 256
    → decimal number ≡ (48 + number / 10 / 10) ∷ (48 + number / 10 % 10) ∷ (48 + number % 10) ∷ []
three_digits number least most =
    decimal_step number (omega (arith, least)) (omega (arith, most))
    ∙ ap (λ d. d ++ (48 + number % 10) ∷ [])
    (two_digits (number / 10) (omega (arith, least)) (omega (arith, most)))

at_least : (least number : ℕ) → least ≤ number → nat_le least number ≡ true
at_least least number is = grind (arith, nat_tests)

not_at_least : (least number : ℕ) → number < least → nat_le least number ≡ false
not_at_least least number is = grind (arith, nat_tests)

-- the digits of a number below 256 without leading zeros
abbrev octet_digits : ℕ → List ℕ
octet_digits number =
    (if nat_le 100 number then (48 + number / 10 / 10) ∷ [] else [])
    ++ (if nat_le 10 number then (48 + number / 10 % 10) ∷ [] else []) ++ (48 + number % 10) ∷ []

one_kept : (number : ℕ) → number < 10 → octet_digits number ≡ decimal number
one_kept number most =
    let same : number % 10 ≡ number = omega arith in
    rw (not_at_least 100 number (omega arith), not_at_least 10 number most, same) (sym (decimal_digit number most))

two_kept : (number : ℕ) → 10 ≤ number → number < 100 → octet_digits number ≡ decimal number
two_kept number least most =
    let same : number / 10 % 10 ≡ number / 10 = omega arith in
    rw (not_at_least 100 number most, at_least 10 number least, same) (sym (two_digits number least most))

three_kept : (number : ℕ) → 100 ≤ number → number < 256 → octet_digits number ≡ decimal number
three_kept number least most =
    rw (at_least 100 number least, at_least 10 number (omega arith)) (sym (three_digits number least most))

octet_digits-are : (number : ℕ) → number < 256 → octet_digits number ≡ decimal number
octet_digits-are number most =
    elim (cases_lt number 10) [
      | inl one ↦ one_kept number one
      | inr two ↦
          elim (cases_lt number 100) [
            | inl less ↦ two_kept number two less
            | inr three ↦ three_kept number three most
          ]
    ]

-- True if a test holds of all numbers below a bound.
abbrev all_below : (ℕ → Bool) → ℕ → Bool
all_below test zero = true
all_below test (suc number) = test number && all_below test number

holds_below : (test : ℕ → Bool) (end number : ℕ) → T (all_below test end) → number < end → T (test number)
holds_below test zero number all below = absurd (omega (arith, below))
holds_below test (suc last) number all below =
    elim (eq-zero-or-pos (last - number)) [
      | inl none ↦
          let is : number ≡ last = omega (arith, none, below) in
          subst (λ n. T (test n)) (sym is) (and_l (test last) (all_below test last) all)
      | inr some ↦ holds_below test last number (and_r (test last) (all_below test last) all) (omega (arith, some))
    ]

-- the number of bytes of a dot and an octet's number
abbrev pub dotted_len : ℕ → ℕ
dotted_len octet = 2 + (if nat_le 10 octet then 1 else 0) + (if nat_le 100 octet then 1 else 0)

-- True if the table has a dot and the number of an octet at its position.
abbrev has_octet : ℕ → Bool
has_octet octet = bytes_eq (take (dotted_len octet) (slice_range DOTTED_OCTETS (4 * octet) (4 * octet + 4)))
    (46 ∷ octet_digits octet)

is_true : (b : Bool) → T b → b ≡ true
is_true true holds = refl
is_true false holds = absurd holds

pub octet-in_table : (octet : ℕ) → octet < 256
    → take (dotted_len octet) (slice_range DOTTED_OCTETS (4 * octet) (4 * octet + 4)) ≡ 46 ∷ decimal octet
octet-in_table octet below =
    (bytes_eq-Decides _ _).0 (is_true (has_octet octet) (holds_below has_octet 256 octet tt below))
    ∙ ap (λ d. 46 ∷ d) (octet_digits-are octet below)

length-slice_range : (list : List ℕ) (at : ℕ) → at + 4 ≤ length list → length (slice_range list at (at + 4)) ≡ 4
length-slice_range list at within = grind (arith, common_steps)

dotted_len-most : (octet : ℕ) → dotted_len octet ≤ 4
dotted_len-most octet = grind (arith, common_steps)

pub octet-fits : (octet : ℕ) → octet < 256
    → dotted_len octet ≤ length (slice_range DOTTED_OCTETS (4 * octet) (4 * octet + 4))
octet-fits octet below =
    let all : length DOTTED_OCTETS ≡ 1024 = refl in
    let four : length (slice_range DOTTED_OCTETS (4 * octet) (4 * octet + 4)) ≡ 4 =
    length-slice_range DOTTED_OCTETS (4 * octet) (omega (arith, all, below)) in
    omega (arith, four, dotted_len-most octet)

-- The first bytes of a part written at a position extend the text before it.
pub take_part : (text part after : List ℕ) (at count : ℕ) → at ≤ length text → count ≤ length part
    → take (at + count) (take at text ++ (part ++ after)) ≡ take at text ++ take count part
take_part text part after at count within fits =
    let len : length (take at text) ≡ at = grind (arith, common_steps) in
    subst (λ n. take (n + count) (take at text ++ (part ++ after)) ≡ take at text ++ take count part) len
    (take-append-add (take at text) (part ++ after) count
    ∙ ap (λ t. take at text ++ t) (take-append-le count part after fits))

after_dot : (prefix text : List ℕ) → prefix ++ 46 ∷ text ≡ prefix ++ codes "." ++ text
after_dot prefix text = sym (append_assoc prefix (46 ∷ []) text)

-- Four texts written with a dot before each are the texts separated by dots, from the second byte on.
pub four_dotted : (a b c d first second third text : List ℕ) (end : ℕ) → first ≡ 46 ∷ a → second ≡ first ++ 46 ∷ b
    → third ≡ second ++ 46 ∷ c → take end text ≡ third ++ 46 ∷ d → 0 < end
    → take (end - 1) (drop 1 text) ≡ a ++ codes "." ++ b ++ codes "." ++ c ++ codes "." ++ d
four_dotted a b c d first second third text end is_first is_second is_third is some =
    let complete : 1 + (end - 1) ≡ end = omega (arith, some) in
    let seconds : second ≡ 46 ∷ (a ++ 46 ∷ b) = is_second ∙ ap (λ t. t ++ 46 ∷ b) is_first in
    let thirds : third ≡ 46 ∷ (a ++ 46 ∷ b ++ 46 ∷ c) = is_third ∙ ap (λ t. t ++ 46 ∷ c) seconds in
    let all : take end text ≡ 46 ∷ (a ++ 46 ∷ b ++ 46 ∷ c ++ 46 ∷ d) = is ∙ ap (λ t. t ++ 46 ∷ d) thirds in
    sym (drop-take 1 (end - 1) text) ∙ ap (λ n. drop 1 (take n text)) complete ∙ ap (λ t. drop 1 t) all
    ∙ ap (λ t. t ++ 46 ∷ c ++ 46 ∷ d) (after_dot a b)
    ∙ ap (λ t. t ++ 46 ∷ d) (after_dot (a ++ codes "." ++ b) c)
    ∙ after_dot (a ++ codes "." ++ b ++ codes "." ++ c) d

-- ---- hexadecimal digits

-- True if the table has the two digits of a byte at its position.
abbrev has_pair : ℕ → Bool
has_pair byte =
    eqb (get_or HEX_PAIRS (2 * byte) 0) (hex_digit (byte / 16))
    && eqb (get_or HEX_PAIRS (2 * byte + 1) 0) (hex_digit (byte % 16))

pub pair-in_table : (byte : ℕ) → byte < 256
    → get_or HEX_PAIRS (2 * byte) 0 ∷ get_or HEX_PAIRS (2 * byte + 1) 0 ∷ [] ≡ hex_pair byte
pair-in_table byte below =
    let has = holds_below has_pair 256 byte tt below in
    let first : get_or HEX_PAIRS (2 * byte) 0 ≡ hex_digit (byte / 16) =
    eqb→eq _ _ (and_l _ (eqb (get_or HEX_PAIRS (2 * byte + 1) 0) (hex_digit (byte % 16))) has) in
    let second : get_or HEX_PAIRS (2 * byte + 1) 0 ≡ hex_digit (byte % 16) =
    eqb→eq _ _ (and_r (eqb (get_or HEX_PAIRS (2 * byte) 0) (hex_digit (byte / 16))) _ has) in
    ap (λ d. d ∷ get_or HEX_PAIRS (2 * byte + 1) 0 ∷ []) first ∙ ap (λ d. hex_digit (byte / 16) ∷ d ∷ []) second

-- ---- IPv6 addresses

-- a colon and the hexadecimal number of each group
abbrev pub further_groups : List ℕ → List ℕ
further_groups groups = flat_map (λ group. codes ":" ++ hex group) groups

nat_le-less : (more less number : ℕ) → less ≤ more → nat_le more number ≡ true → nat_le less number ≡ true
nat_le-less more less number order is = grind (arith, nat_tests)

-- the number of leading zeros of four hexadecimal digits; each test is true if its digit is not one of them
abbrev pub skipped : Bool → Bool → Bool → ℕ
skipped a b c = 3 - ((if a then 1 else 0) + (if b then 1 else 0) + (if c then 1 else 0))

skipped_is : (a b c : Bool) → (a ≡ true → b ≡ true) → (b ≡ true → c ≡ true)
    → skipped a b c ≡ (if a then 0 else (if b then 1 else (if c then 2 else 3)))
skipped_is true true true ab bc = refl
skipped_is true true false ab bc = absurd (true≢false (sym (bc refl)))
skipped_is true false c ab bc = absurd (true≢false (sym (ab refl)))
skipped_is false true true ab bc = refl
skipped_is false true false ab bc = absurd (true≢false (sym (bc refl)))
skipped_is false false true ab bc = refl
skipped_is false false false ab bc = refl

-- The digits of a group without its leading zeros are its hexadecimal number.
pub hex_is : (number : ℕ)
    → drop (skipped (nat_le 4096 number) (nat_le 256 number) (nat_le 16 number))
    (hex_pair (number / 256) ++ hex_pair (number % 256)) ≡ hex number
unfolding hex
hex_is number =
    let first : number / 256 / 16 ≡ number / 4096 = omega arith in
    let third : number % 256 / 16 ≡ number / 16 % 16 = omega arith in
    let fourth : number % 256 % 16 ≡ number % 16 = omega arith in
    rw (
      first,
      third,
      fourth,
      skipped_is (nat_le 4096 number) (nat_le 256 number) (nat_le 16 number)
          (nat_le-less 4096 256 number (omega arith)) (nat_le-less 256 16 number (omega arith)),
    ) refl

pub skipped-most : (a b c : Bool) → skipped a b c ≤ 3
skipped-most a b c = grind (arith, common_steps)

-- A part written at a position, without its first bytes, extends the text after it.
pub drop_part : (text part after : List ℕ) (at skip : ℕ) → at ≤ length text → skip ≤ length part
    → drop (at + skip) (take at text ++ (part ++ after)) ≡ drop skip part ++ after
drop_part text part after at skip within fits =
    let len : length (take at text) ≡ at = grind (arith, common_steps) in
    subst (λ n. drop (n + skip) (take at text ++ (part ++ after)) ≡ drop skip part ++ after) len
    (drop-append-add (take at text) (part ++ after) skip ∙ drop-append-le skip part after fits)

-- Two bytes set before a position extend the text after it.
pub put_two : (text : List ℕ) (at first second : ℕ) → 2 ≤ at → at ≤ length text
    → drop (at - 2) (set (set text (at - 1) second) (at - 2) first) ≡ first ∷ second ∷ drop at text
put_two text at first second least within =
    let kept = set text (at - 1) second in
    let before_last : at - 2 + 1 ≡ at - 1 = omega (arith, least) in
    let last : at - 1 + 1 ≡ at = omega (arith, least) in
    drop-set kept (at - 2) first (omega (arith, length-set text (at - 1) second, least, within))
    ∙ ap (λ n. first ∷ drop n kept) before_last
    ∙ ap (λ t. first ∷ t) (drop-set text (at - 1) second (omega (arith, least, within)))
    ∙ ap (λ n. first ∷ second ∷ drop n text) last

-- Groups written with `::` in place of the first longest run of zeros are the text of the address.
pub compressed_groups : (groups : List ℕ) (run : ℕ × ℕ) (tail joined complete : List ℕ) → run ≡ longest_zero_run groups
    → 1 < run.1 → length groups ≡ 8 → tail ≡ groups_text (take (8 - (run.0 + run.1)) (drop (run.0 + run.1) groups)) ++ []
    → joined ≡ 58 ∷ 58 ∷ tail → complete ≡ groups_text (take run.0 groups) ++ joined
    → complete ≡ hex_groups_text groups
unfolding hex_groups_text
compressed_groups groups run tail joined complete longest some eight is_tail is_joined is_complete =
    let long : nat_lt 1 run.1 ≡ true = grind (arith, nat_tests) in
    let after : take (8 - (run.0 + run.1)) (drop (run.0 + run.1) groups) ≡ drop (run.0 + run.1) groups =
    take_all (8 - (run.0 + run.1)) (drop (run.0 + run.1) groups)
    (omega (arith, length-drop (run.0 + run.1) groups, eight)) in
    is_complete ∙ ap (λ t. groups_text (take run.0 groups) ++ t)
    (is_joined ∙ ap (λ t. 58 ∷ 58 ∷ t)
    (is_tail ∙ append-nil (groups_text (take (8 - (run.0 + run.1)) (drop (run.0 + run.1) groups)))
    ∙ ap groups_text after))
    ∙ sym (append_assoc (groups_text (take run.0 groups)) (58 ∷ 58 ∷ []) (groups_text (drop (run.0 + run.1) groups)))
    ∙ rw (← longest, long) refl

-- Without a run of two or more zeros, the text of the address is that of all groups.
pub complete_groups : (groups : List ℕ) (run : ℕ × ℕ) → run ≡ longest_zero_run groups → run.1 ≤ 1
    → groups_text groups ≡ hex_groups_text groups
unfolding hex_groups_text
complete_groups groups run longest none =
    let short : nat_lt 1 run.1 ≡ false = grind (arith, nat_tests) in
    rw (← longest, short) refl
