-- Meanings of arguments, and values of options.
use Rattle.std.proofs.Common.{◌≡◌, ℕ, ◌^◌, ◌<◌, Bool, true, false, ◌&&◌, ◌||◌, ◌⊎◌, inl, inr, cond, nat_lt, List, []}
use Rattle.std.proofs.Common.{◌∷◌, length, Option, Some, None, refl, ap, ◌∙◌, sym, subst, arith}
use Rattle.std.specs.Prelude.{codes, find, map}
use Rattle.std.specs.Bool.{Decides}
use Rattle.std.specs.Char.{digit_value}
use Rattle.std.specs.List.{list_all, list_any}
use Rattle.std.specs.Option.{option_map}
use Rattle.std.specs.Str.{bytes_eq}
use Rattle.std.specs.Str.Parse.{AllDigits, IsNumeral, digits_value, without_leading_plus}
use Rattle.std.proofs.lemmas.Bool.Decides.{Decides-and, Decides-ltb}
use Rattle.std.proofs.lemmas.Slice.Eq.{bytes_eq-Decides}
use Rattle.packet_dump.specs.Options.{IsNumber, IsOptionWord, IsValue, Item, count, form_name, is_dashed, is_known, kind_name, limit, only, time}
use Rattle.packet_dump.specs.Options.{explain, file, filter}
use Rattle.packet_dump.specs.Options.{streams, timeout, write, fragment_age, fragment_bytes, overlap, policy_name}
use Rattle.packet_dump.specs.OptionSteps.{form_named, kind_named, number_in, value_in, word_in, word_named, word_table}
use Rattle.packet_dump.specs.OptionSteps.{policy_named}
use Rattle.etherparse.specs.Types.OverlapPolicy.{OverlapPolicy}
use Rattle.etherparse.specs.Types.OverlapPolicy.TheVariants.{LastWins, FirstWins, Discard}
use Rattle.packet_dump.specs.declared.options.Awaited.{Awaited}
use Rattle.packet_dump.specs.declared.options.Awaited.TheVariants.{Count, Only, Time, Timeout, Limit, Write, Streams, Filter, Input}
use Rattle.packet_dump.specs.declared.options.Awaited.TheVariants.{FragmentBytes, FragmentAge, Overlap, Explain}
use Rattle.packet_dump.specs.declared.options.FilterKind.{FilterKind}
use Rattle.packet_dump.specs.declared.options.Word.{Word}
use Rattle.packet_dump.specs.declared.options.Word.TheVariants as word
use Rattle.packet_dump.specs.declared.dump_options.Kind.{Kind}
use Rattle.packet_dump.specs.declared.dump_options.Kind.TheVariants as kind
use Rattle.packet_dump.specs.declared.dump_options.TimeForm.{TimeForm}
use Rattle.packet_dump.specs.declared.dump_options.TimeForm.TheVariants.{Relative, Epoch, Utc}

-- ---- a choice by a test

pub branch : {A : Type 0} (P : A → Type 0) (b : Bool) (x y : A) → (b ≡ true → P x) → (b ≡ false → P y)
    → P (cond b x y)
branch P true x y here present = here refl
branch P false x y here present = present refl

some_if : (b : Bool) (value : ℕ) → b ≡ true → cond b (Some value) None ≡ Some value
some_if true value holds = refl
some_if false value holds = cc

some_only_if : (b : Bool) (value number : ℕ) → cond b (Some value) None ≡ Some number
    → (b ≡ true) × (value ≡ number)
some_only_if true value number is = (refl, cc)
some_only_if false value number is = let never : ⊥ = cc in absurd never

no_or : (a b : Bool) → (a || b) ≡ false → (a ≡ false) × (b ≡ false)
no_or true b is = let never : ⊥ = cc in absurd never
no_or false b is = (refl, is)

pub some_of : {A B : Type 0} (f : A → B) (o : Option A) (x : B) → option_map f o ≡ Some x
    → (y : A) × (o ≡ Some y) × (f y ≡ x)
some_of f None x is = let never : ⊥ = cc in absurd never
some_of f (Some y) x is = (y, refl, cc)

-- ---- numbers

all_digits : (digits : List ℕ)
    → Decides (list_all (λ digit. nat_lt (digit_value digit) 10) digits) (AllDigits 10 digits)
all_digits [] = (λ _. tt, λ _. refl)
all_digits (digit ∷ digits) = Decides-and _ _ (Decides-ltb (digit_value digit) 10) (all_digits digits)

is_number_in : ℕ → List ℕ → Bool
is_number_in bits digits =
    nat_lt 0 (length digits) && list_all (λ digit. nat_lt (digit_value digit) 10) digits
    && nat_lt (digits_value 10 digits) (2 ^ bits)

number_decides : (bits : ℕ) (digits : List ℕ)
    → Decides (is_number_in bits digits) (IsNumeral 10 digits × (digits_value 10 digits < 2 ^ bits))
unfolding is_number_in
number_decides bits digits =
    Decides-and _ _ (Decides-and _ _ (Decides-ltb 0 (length digits)) (all_digits digits))
    (Decides-ltb (digits_value 10 digits) (2 ^ bits))

number_in-some : (bits : ℕ) (text : List ℕ) (number : ℕ) → IsNumber bits text number
    → number_in bits text ≡ Some number
unfolding is_number_in
number_in-some bits text number (numeral, says, fits) =
    let fits_present : digits_value 10 (without_leading_plus text) < 2 ^ bits = omega (arith, says, fits) in
    some_if (is_number_in bits (without_leading_plus text)) (digits_value 10 (without_leading_plus text))
    ((number_decides bits (without_leading_plus text)).1 (numeral, fits_present))
    ∙ ap Some says

number_in-is : (bits : ℕ) (text : List ℕ) (number : ℕ) → number_in bits text ≡ Some number
    → IsNumber bits text number
unfolding is_number_in
number_in-is bits text number is =
    let (holds, says) = some_only_if (is_number_in bits (without_leading_plus text))
    (digits_value 10 (without_leading_plus text)) number is in
    let (numeral, fits) = (number_decides bits (without_leading_plus text)).0 holds in
    (numeral, says, omega (arith, says, fits))

-- ---- kinds

found_passes : {A : Type 0} (test : A → Bool) (kinds : List A) (sought : A) → find test kinds ≡ Some sought
    → test sought ≡ true
found_passes test [] sought is = let never : ⊥ = cc in absurd never
found_passes test (first ∷ kinds) sought is =
    branch (λ o. o ≡ Some sought → test sought ≡ true) (test first) (Some first) (find test kinds)
    (λ passes same. let e : first ≡ sought = cc in ap test (sym e) ∙ passes)
    (λ _ later. found_passes test kinds sought later) is

kind_named-is : (name : List ℕ) (sought : Kind) → kind_named name ≡ Some sought → name ≡ kind_name sought
kind_named-is name sought is =
    (bytes_eq-Decides name (kind_name sought)).0 (found_passes (λ k. bytes_eq name (kind_name k))
    (kind.Udp ∷ kind.Tcp ∷ kind.Icmp ∷ kind.Arp ∷ kind.Refused ∷ kind.Stopped ∷ []) sought is)

kind_named-name : (sought : Kind) → kind_named (kind_name sought) ≡ Some sought
kind_named-name kind.Udp = refl
kind_named-name kind.Tcp = refl
kind_named-name kind.Icmp = refl
kind_named-name kind.Arp = refl
kind_named-name kind.Refused = refl
kind_named-name kind.Stopped = refl

kind_named-some : (name : List ℕ) (sought : Kind) → name ≡ kind_name sought → kind_named name ≡ Some sought
kind_named-some name sought is = ap kind_named is ∙ kind_named-name sought

-- ---- time formats

form_named-is : (name : List ℕ) (sought : TimeForm) → form_named name ≡ Some sought → name ≡ form_name sought
form_named-is name sought is =
    (bytes_eq-Decides name (form_name sought)).0 (found_passes (λ f. bytes_eq name (form_name f))
    (Relative ∷ Epoch ∷ Utc ∷ []) sought is)

form_named-name : (sought : TimeForm) → form_named (form_name sought) ≡ Some sought
form_named-name Relative = refl
form_named-name Epoch = refl
form_named-name Utc = refl

form_named-some : (name : List ℕ) (sought : TimeForm) → name ≡ form_name sought → form_named name ≡ Some sought
form_named-some name sought is = ap form_named is ∙ form_named-name sought

-- ---- policies for overlaps

policy_named-is : (name : List ℕ) (sought : OverlapPolicy) → policy_named name ≡ Some sought → name ≡ policy_name sought
policy_named-is name sought is =
    (bytes_eq-Decides name (policy_name sought)).0 (found_passes (λ p. bytes_eq name (policy_name p))
    (LastWins ∷ FirstWins ∷ Discard ∷ []) sought is)

policy_named-name : (sought : OverlapPolicy) → policy_named (policy_name sought) ≡ Some sought
policy_named-name LastWins = refl
policy_named-name FirstWins = refl
policy_named-name Discard = refl

policy_named-some : (name : List ℕ) (sought : OverlapPolicy) → name ≡ policy_name sought
    → policy_named name ≡ Some sought
policy_named-some name sought is = ap policy_named is ∙ policy_named-name sought

-- ---- values of options

pub value_in-some : (option : Awaited) (text : List ℕ) (item : Item) → IsValue option text item
    → value_in option text ≡ Some item
value_in-some Count text (count number) says = ap (option_map count) (number_in-some 64 text number says)
value_in-some Only text (only sought) says = ap (option_map only) (kind_named-some text sought says)
value_in-some Time text (time sought) says = ap (option_map time) (form_named-some text sought says)
value_in-some Timeout text (timeout number) says = ap (option_map timeout) (number_in-some 32 text number says)
value_in-some Limit text (limit number) says = ap (option_map limit) (number_in-some 16 text number says)
value_in-some Write text (write stated) says = ap (λ t. Some (write t)) says
value_in-some Streams text (streams number) says = ap (option_map streams) (number_in-some 64 text number says)
value_in-some FragmentBytes text (fragment_bytes number) says =
    ap (option_map fragment_bytes) (number_in-some 64 text number says)
value_in-some FragmentAge text (fragment_age number) says =
    ap (option_map fragment_age) (number_in-some 32 text number says)
value_in-some Overlap text (overlap sought) says = ap (option_map overlap) (policy_named-some text sought says)
value_in-some (Filter kind) text (filter other stated) says =
    ap (λ k. Some (filter k text)) says.0 ∙ ap (λ t. Some (filter other t)) says.1
value_in-some Input text (file name) says = ap (λ t. Some (file t)) says
value_in-some Explain text (explain stated) says = ap (λ t. Some (explain t)) says
value_in-some option text item says = absurd says

-- The text of a filter primitive is the value of its option.
pub filter_value : (option : Awaited) (kind : FilterKind) (text : List ℕ) → option ≡ Filter kind
    → IsValue option text (filter kind text)
filter_value option kind text is =
    subst (λ (o : Awaited). IsValue o text (filter kind text)) (sym is) (refl, refl)

-- The name of the input is the value of its option.
pub input_value : (option : Awaited) (text : List ℕ) → option ≡ Input → IsValue option text (file text)
input_value option text is = subst (λ (o : Awaited). IsValue o text (file text)) (sym is) refl

-- The expression is the value of its option.
pub explain_value : (option : Awaited) (text : List ℕ) → option ≡ Explain → IsValue option text (explain text)
explain_value option text is = subst (λ (o : Awaited). IsValue o text (explain text)) (sym is) refl

pub value_in-is : (option : Awaited) (text : List ℕ) (item : Item) → value_in option text ≡ Some item
    → IsValue option text item
value_in-is Count text item is =
    let (number, present, same) = some_of count (number_in 64 text) item is in
    subst (λ (i : Item). IsValue Count text i) same (number_in-is 64 text number present)
value_in-is Only text item is =
    let (sought, present, same) = some_of only (kind_named text) item is in
    subst (λ (i : Item). IsValue Only text i) same (kind_named-is text sought present)
value_in-is Time text item is =
    let (sought, present, same) = some_of time (form_named text) item is in
    subst (λ (i : Item). IsValue Time text i) same (form_named-is text sought present)
value_in-is Timeout text item is =
    let (number, present, same) = some_of timeout (number_in 32 text) item is in
    subst (λ (i : Item). IsValue Timeout text i) same (number_in-is 32 text number present)
value_in-is Limit text item is =
    let (number, present, same) = some_of limit (number_in 16 text) item is in
    subst (λ (i : Item). IsValue Limit text i) same (number_in-is 16 text number present)
value_in-is Write text item is =
    let same : write text ≡ item = cc in
    subst (λ (i : Item). IsValue Write text i) same refl
value_in-is Streams text item is =
    let (number, present, same) = some_of streams (number_in 64 text) item is in
    subst (λ (i : Item). IsValue Streams text i) same (number_in-is 64 text number present)
value_in-is FragmentBytes text item is =
    let (number, present, same) = some_of fragment_bytes (number_in 64 text) item is in
    subst (λ (i : Item). IsValue FragmentBytes text i) same (number_in-is 64 text number present)
value_in-is FragmentAge text item is =
    let (number, present, same) = some_of fragment_age (number_in 32 text) item is in
    subst (λ (i : Item). IsValue FragmentAge text i) same (number_in-is 32 text number present)
value_in-is Overlap text item is =
    let (sought, present, same) = some_of overlap (policy_named text) item is in
    subst (λ (i : Item). IsValue Overlap text i) same (policy_named-is text sought present)
value_in-is (Filter kind) text item is =
    let same : filter kind text ≡ item = cc in
    subst (λ (i : Item). IsValue (Filter kind) text i) same (refl, refl)
value_in-is Input text item is =
    let same : file text ≡ item = cc in
    subst (λ (i : Item). IsValue Input text i) same refl
value_in-is Explain text item is =
    let same : explain text ≡ item = cc in
    subst (λ (i : Item). IsValue Explain text i) same refl

pub write_value : (option : Awaited) (text : List ℕ) → option ≡ Write → IsValue option text (write text)
write_value option text is = subst (λ o. IsValue o text (write text)) (sym is) refl

none_from : (o : Option Item) → ((item : Item) → o ≡ Some item → ⊥) → o ≡ None
none_from None never = refl
none_from (Some item) never = absurd (never item refl)

pub value_in-none : (option : Awaited) (text : List ℕ) → ((item : Item) → IsValue option text item → ⊥)
    → value_in option text ≡ None
value_in-none option text never =
    none_from (value_in option text) (λ item is. never item (value_in-is option text item is))

-- ---- meanings of arguments

-- The property holds for the meaning in each row whose name is the argument.
abbrev Rows : List ℕ → (Word → Type 0) → List (List ℕ × Word) → Type 0
Rows text P [] = Unit {0}
Rows text P (row ∷ rows) = (text ≡ row.0 → P row.1) × Rows text P rows

-- A property of every row of the table, and of arguments in no row, holds for the meaning of the argument.
by_rows : (text : List ℕ) (P : Word → Type 0) (rows : List (List ℕ × Word)) → Rows text P rows
    → (list_any (λ known. bytes_eq text known) (map (λ row. row.0) rows) ≡ false → P (word_in [] text))
    → P (word_in rows text)
by_rows text P [] each none = none refl
by_rows text P (row ∷ rows) each none =
    branch P (bytes_eq text row.0) row.1 (word_in rows text)
    (λ same. each.0 ((bytes_eq-Decides text row.0).0 same))
    (λ other. by_rows text P rows each.1 (λ others.
    none (ap (λ b. b || list_any (λ known. bytes_eq text known) (map (λ row. row.0) rows)) other ∙ others)))

-- An argument in no row of the table has the meaning that it has without a table.
in_no_row : (text : List ℕ) (rows : List (List ℕ × Word))
    → list_any (λ known. bytes_eq text known) (map (λ row. row.0) rows) ≡ false → word_in rows text ≡ word_in [] text
in_no_row text [] none = refl
in_no_row text (row ∷ rows) none =
    let (other, others) =
    no_or (bytes_eq text row.0) (list_any (λ known. bytes_eq text known) (map (λ row. row.0) rows)) none in
    ap (λ b. cond b row.1 (word_in rows text)) other ∙ in_no_row text rows others

-- A test of a list is false if it is false for its head and for its tail.
both_none : (same dashed all any : Bool) → (dashed && all) ≡ true → (same ≡ true → dashed ≡ false)
    → (all ≡ true → any ≡ false) → (same || any) ≡ false
both_none true true all any both here later = here refl
both_none true false all any both here later = let never : ⊥ = cc in absurd never
both_none false true all any both here later = later both
both_none false false all any both here later = let never : ⊥ = cc in absurd never

-- An argument that does not begin with `-` is in no row of a table of names that do.
not_dashed : (text : List ℕ) (known : List (List ℕ)) → list_all is_dashed known ≡ true → is_dashed text ≡ false
    → list_any (λ one. bytes_eq text one) known ≡ false
not_dashed text [] all plain = refl
not_dashed text (one ∷ known) all plain =
    both_none (bytes_eq text one) (is_dashed one) (list_all is_dashed known) (list_any (λ w. bytes_eq text w) known) all
    (λ same. let e : text ≡ one = (bytes_eq-Decides text one).0 same in ap is_dashed (sym e) ∙ plain)
    (λ rest. not_dashed text known rest plain)

pub unknown_word : (text : List ℕ) → is_dashed text ≡ true → is_known text ≡ false → word_named text ≡ word.Unknown
unknown_word text dashed unknown = in_no_row text word_table unknown ∙ ap (λ b. cond b word.Unknown word.Plain) dashed

pub plain_word : (text : List ℕ) → is_dashed text ≡ false → word_named text ≡ word.Plain
plain_word text plain =
    in_no_row text word_table (not_dashed text (map (λ row. row.0) word_table) refl plain)
    ∙ ap (λ b. cond b word.Unknown word.Plain) plain

-- The argument has this meaning.
abbrev pub IsWord : List ℕ → Word → Type 0
IsWord text word.Help = (text ≡ codes "-h") ⊎ (text ≡ codes "--help")
IsWord text word.Version = (text ≡ codes "-V") ⊎ (text ≡ codes "--version")
IsWord text word.Hex = text ≡ codes "--hex"
IsWord text word.HexFrame = text ≡ codes "--hex=frame"
IsWord text word.Strict = text ≡ codes "--strict"
IsWord text word.Verbose = text ≡ codes "--verbose"
IsWord text word.Summary = text ≡ codes "--summary"
IsWord text word.Quiet = text ≡ codes "--quiet"
IsWord text word.Reassemble = text ≡ codes "--reassemble"
IsWord text word.NoNames = (text ≡ codes "-n") ⊎ (text ≡ codes "-nn")
IsWord text (word.Option option) = IsOptionWord option text
IsWord text word.StandardInput = text ≡ codes "-"
IsWord text word.Plain = is_dashed text ≡ false
IsWord text word.Unknown = (is_dashed text ≡ true) × (is_known text ≡ false)

pub is_word : (text : List ℕ) → IsWord text (word_named text)
is_word text =
    by_rows text (IsWord text) word_table (λ e. inl e, (λ e. inr e, (λ e. inl e, (λ e. inr e, (λ e. e, (λ e. e, (λ e. e, (λ e. e, (λ e. e, (λ e. e, (λ e. e, (λ e. inl e, (λ e. inr e, (λ e. inl e, (λ e. e, (λ e. e, (λ e. e, (λ e. e, (λ e. e, (λ e. e, (λ e. e, (λ e. e, (λ e. e, (λ e. e, (λ e. e, (λ e. e, (λ e. e, (λ e. inr e, (λ e. e, (λ e. e, (λ e. e, tt)))))))))))))))))))))))))))))))
    (λ none. branch (IsWord text) (is_dashed text) word.Unknown word.Plain (λ dashed. (dashed, none)) (λ plain. plain))
