-- The writes of an identifier can be read back from the writes passed to std's hasher, so different writes become
-- different writes.
use Rattle.std.proofs.Common.{◌≡◌, ◌∙◌, ℕ, zero, suc, ◌+◌, ◌-◌, ◌*◌, ◌/◌, ◌%◌, ◌^◌, ◌<◌, ◌≤◌, ◌⊎◌, inl, inr, Bool, true, false, List, [], ◌∷◌, ◌++◌, length, if◌then◌else◌, nat_eq, nat_le, bit_or, refl, sym, ap, subst, arith, slice_index}
use Rattle.std.specs.Int.{w16, w64, to_le_bytes, from_le_bytes}
use Rattle.std.specs.Hash.{HashWrites}
use Rattle.std.specs.Hash.FoldHasher as std_hasher
use Rattle.std.specs.List.{fold, All}
use Rattle.std.proofs.lemmas.Bool.{cases_lt, cases_eq, eq-eqb, ne_eqb, lt-ltb, le-ltb, le-leb, lt-leb}
use Rattle.std.proofs.lemmas.List.{append_assoc, append-nil}
use Rattle.std.proofs.lemmas.List.Sums.{fold-append}
use Rattle.std.proofs.lemmas.Nat.{or_comm, or_shifted, or_block, shl_whole, le_bytes_2, le_bytes_8, from_le_bytes-to_le_bytes_8}
use Rattle.ep_defrag.specs.declared.name_hasher.NameHasher.{NameHasher}
use Rattle.ep_base.specs.Bytes.{AreBytes}
use Rattle.ep_defrag.specs.NameHashes.{Step, word, rest_of, capacity_step, wait_step, number_step, step_of, initial, stepped, with_bytes, finished, hash_of, given_after, given_for, std_hash}

-- ---- the hash is std's hash of the writes passed on

pub hash_after : (hasher : NameHasher) (writes : HashWrites) → finished (fold with_bytes hasher writes)
    ≡ std_hasher.finish (fold std_hasher.write hasher.state (given_after hasher.waiting hasher.count writes))
unfolding stepped with_bytes finished given_after
hash_after hasher [] = refl
hash_after hasher (bytes ∷ writes) =
    let step = step_of hasher.waiting hasher.count bytes in
    hash_after (with_bytes hasher bytes) writes ∙ ap std_hasher.finish
    (sym (fold-append std_hasher.write hasher.state step.given (given_after step.waiting step.count writes)))

pub hash_is_given : (writes : HashWrites) → hash_of writes ≡ std_hash (given_for writes)
unfolding hash_of initial
hash_is_given writes = hash_after initial writes

-- ---- the pending word, read back

-- writes that a pending word contains
unfoldable unwaited : ℕ → ℕ → HashWrites
unwaited zero waiting = []
unwaited (suc more) waiting =
    if nat_eq waiting 1 then []
    else (if nat_eq (waiting / 256) 2 then word (waiting % 256)
    else (if nat_eq (waiting / 2 ^ 40 % 2) 1
    then unwaited more ((waiting - 2 ^ 40) / 2 ^ 16) ++ (to_le_bytes w16 (waiting % 2 ^ 16) ∷ [])
    else unwaited more (waiting / 256) ++ ((waiting % 256 ∷ []) ∷ [])))

-- Holds if a pending word with this number of bytes contains these writes.
record Waits (waiting count : ℕ) (writes : HashWrites) : Type 0 where
  start : (256 ≤ waiting) ⊎ (waiting ≡ 1)
  none : count < 1 → waiting < 2 ^ 10
  one : count < 2 → waiting < 2 ^ 18
  two : count < 3 → (waiting < 2 ^ 41) × (waiting % 2 ^ 40 < 2 ^ 26)
  any : waiting < 2 ^ 49
  most : count ≤ 3
  unwaits : (more : ℕ) → count < more → unwaited more waiting ≡ writes

none_is_unwaited : (more : ℕ) → unwaited more 1 ≡ []
unfolding unwaited
none_is_unwaited zero = refl
none_is_unwaited (suc more) = refl

none_waits : Waits 1 0 []
none_waits = record {
  start = inr refl;
  none = λ few. omega arith;
  one = λ few. omega arith;
  two = λ few. (omega arith, omega arith);
  any = omega arith;
  most = omega arith;
  unwaits = λ more some. none_is_unwaited more;
}

number_is_unwaited : (more number : ℕ) → number < 256 → 0 < more → unwaited more (512 + number) ≡ word number
unfolding unwaited
number_is_unwaited zero number small some = absurd (omega arith)
number_is_unwaited (suc more) number small some =
    rw (
      ne_eqb (512 + number) 1 (λ same. omega arith),
      eq-eqb ((512 + number) / 256) 2 (omega arith),
    ) (ap word (omega arith))

number_waits : (number : ℕ) → number < 256 → Waits (512 + number) 0 (word number)
number_waits number small = record {
  start = inl (omega arith);
  none = λ few. omega arith;
  one = λ few. omega arith;
  two = λ few. (omega arith, omega arith);
  any = omega arith;
  most = omega arith;
  unwaits = λ more some. number_is_unwaited more number small some;
}

byte_is_unwaited : (waiting count byte : ℕ) (writes : HashWrites) → Waits waiting count writes → count < 3
    → byte < 256 → (more : ℕ) → count + 1 < more → unwaited more (waiting * 256 + byte) ≡ writes ++ ((byte ∷ []) ∷ [])
unfolding unwaited
byte_is_unwaited waiting count byte writes waits few small zero enough = absurd (omega arith)
byte_is_unwaited waiting count byte writes waits few small (suc more) enough =
    let rest : (waiting * 256 + byte) / 256 ≡ waiting = omega arith in
    let last : (waiting * 256 + byte) % 256 ≡ byte = omega arith in
    let alone : (waiting * 256 + byte) / 2 ^ 40 % 2 ≡ 0 = omega (arith, (waits.two few).1) in
    rw (
      ne_eqb (waiting * 256 + byte) 1 (λ same. omega (arith, waits.start)),
      rest,
      ne_eqb waiting 2 (λ same. omega (arith, waits.start)),
      alone,
      last,
      waits.unwaits more (omega arith),
    ) refl

two_is_unwaited : (waiting count number : ℕ) (writes : HashWrites) → Waits waiting count writes → count < 2
    → number < 2 ^ 16 → (more : ℕ) → count + 2 < more
    → unwaited more (2 ^ 40 + waiting * 2 ^ 16 + number) ≡ writes ++ (to_le_bytes w16 number ∷ [])
unfolding unwaited
two_is_unwaited waiting count number writes waits few small zero enough = absurd (omega arith)
two_is_unwaited waiting count number writes waits few small (suc more) enough =
    let low = waits.one few in
    rw (
      ne_eqb (2 ^ 40 + waiting * 2 ^ 16 + number) 1 (λ same. omega arith),
      ne_eqb ((2 ^ 40 + waiting * 2 ^ 16 + number) / 256) 2 (λ same. omega arith),
      eq-eqb ((2 ^ 40 + waiting * 2 ^ 16 + number) / 2 ^ 40 % 2) 1 (omega arith),
    )
    (let rest : (2 ^ 40 + waiting * 2 ^ 16 + number - 2 ^ 40) / 2 ^ 16 ≡ waiting = omega arith in
    let last : (2 ^ 40 + waiting * 2 ^ 16 + number) % 2 ^ 16 ≡ number = omega arith in
    rw (rest, last, waits.unwaits more (omega arith)) refl)

byte_waits : (waiting count byte : ℕ) (writes : HashWrites) → Waits waiting count writes → count < 3
    → byte < 256 → Waits (waiting * 256 + byte) (count + 1) (writes ++ ((byte ∷ []) ∷ []))
byte_waits waiting count byte writes waits few small = record {
  start = inl (omega (arith, waits.start));
  none = λ less. absurd (omega arith);
  one = λ less. omega (arith, waits.none (omega arith));
  two = λ less. (omega (arith, waits.one (omega arith)), omega (arith, waits.one (omega arith)));
  any = omega (arith, (waits.two few).0);
  most = omega arith;
  unwaits = λ more enough. byte_is_unwaited waiting count byte writes waits few small more enough;
}

two_wait : (waiting count number : ℕ) (writes : HashWrites) → Waits waiting count writes → count < 2
    → number < 2 ^ 16 → Waits (2 ^ 40 + waiting * 2 ^ 16 + number) (count + 2) (writes ++ (to_le_bytes w16 number ∷ []))
two_wait waiting count number writes waits few small = record {
  start = inl (omega arith);
  none = λ less. absurd (omega arith);
  one = λ less. absurd (omega arith);
  two = λ less. (omega (arith, waits.none (omega arith)), omega (arith, waits.none (omega arith)));
  any = omega (arith, waits.one few);
  most = omega arith;
  unwaits = λ more enough. two_is_unwaited waiting count number writes waits few small more enough;
}

-- ---- the writes passed on, read back

-- original writes of those passed on; after a mark the first one is unchanged
unfoldable ungiven : Bool → HashWrites → HashWrites
ungiven plain [] = []
ungiven true (bytes ∷ writes) = bytes ∷ ungiven false writes
ungiven false (bytes ∷ writes) =
    if nat_eq (length bytes) 8
    then unwaited 4 (from_le_bytes w64 bytes % 2 ^ 63) ++ ungiven (nat_le (2 ^ 63) (from_le_bytes w64 bytes)) writes
    else bytes ∷ ungiven false writes

eight_are_ungiven : (bytes : List ℕ) (number : ℕ) (others : HashWrites) → length bytes ≡ 8
    → from_le_bytes w64 bytes ≡ number
    → ungiven false (bytes ∷ others) ≡ unwaited 4 (number % 2 ^ 63) ++ ungiven (nat_le (2 ^ 63) number) others
unfolding ungiven
eight_are_ungiven bytes number others eight same = rw (eq-eqb (length bytes) 8 eight, same) refl

waiting_is_ungiven : (waiting : ℕ) (others : HashWrites) → waiting < 2 ^ 63
    → ungiven false (word waiting ++ others) ≡ unwaited 4 waiting ++ ungiven false others
waiting_is_ungiven waiting others small =
    let same : waiting % 2 ^ 63 ≡ waiting = omega arith in
    let read = eight_are_ungiven (to_le_bytes w64 waiting) waiting others refl
    (from_le_bytes-to_le_bytes_8 waiting (omega arith)) in
    read ∙ rw (lt-leb (2 ^ 63) waiting small, same) refl

marked_is_ungiven : (waiting : ℕ) (others : HashWrites) → waiting < 2 ^ 63
    → ungiven false (word (2 ^ 63 + waiting) ++ others) ≡ unwaited 4 waiting ++ ungiven true others
marked_is_ungiven waiting others small =
    let same : (2 ^ 63 + waiting) % 2 ^ 63 ≡ waiting = omega arith in
    let read = eight_are_ungiven (to_le_bytes w64 (2 ^ 63 + waiting)) (2 ^ 63 + waiting) others refl
    (from_le_bytes-to_le_bytes_8 (2 ^ 63 + waiting) (omega arith)) in
    read ∙ rw (le-leb (2 ^ 63) (2 ^ 63 + waiting) (omega arith), same) refl

-- Holds if after a step the writes are those read back from the writes passed on, followed by the pending ones.
record Keeps (step : Step) (writes : HashWrites) : Type 0 where
  moved : HashWrites
  left : HashWrites
  waits : Waits step.waiting step.count left
  reads : (others : HashWrites) → ungiven false (step.given ++ others) ≡ moved ++ ungiven false others
  whole : moved ++ left ≡ writes

joined_append : (a b c d : HashWrites) → a ++ b ≡ c → a ++ (b ++ d) ≡ c ++ d
joined_append a b c d joined = rw (← joined) (sym (append_assoc a b d))

rest_is_ungiven : (waiting count : ℕ) (writes others : HashWrites) → Waits waiting count writes
    → ungiven false (rest_of waiting ++ others) ≡ writes ++ ungiven false others
unfolding rest_of
rest_is_ungiven waiting count writes others waits = elim (cases_lt 1 waiting) [
  | inl some ↦ rw (lt-ltb 1 waiting some)
      (waiting_is_ungiven waiting others (omega (arith, waits.any))
      ∙ ap (λ (read : HashWrites). read ++ ungiven false others) (waits.unwaits 4 (omega (arith, waits.most))))
  | inr none ↦
      let alone : waiting ≡ 1 = omega (arith, waits.start) in
      let empty : [] ≡ writes =
      sym (none_is_unwaited 4) ∙ ap (unwaited 4) (sym alone) ∙ waits.unwaits 4 (omega (arith, waits.most)) in
      rw (le-ltb 1 waiting none) (ap (λ (read : HashWrites). read ++ ungiven false others) empty)
]

space_keeps : (waiting count bytes : ℕ) (writes : HashWrites) → Waits waiting count writes
    → Keeps (capacity_step waiting count bytes) writes
unfolding capacity_step
space_keeps waiting count bytes writes waits = elim (cases_lt 3 (count + bytes)) [
  | inl many ↦ rw (lt-leb (count + bytes) 3 many) (record {
    moved = writes;
    left = [];
    waits = none_waits;
    reads = λ others.
        waiting_is_ungiven waiting others (omega (arith, waits.any))
        ∙ ap (λ (read : HashWrites). read ++ ungiven false others) (waits.unwaits 4 (omega (arith, waits.most)));
    whole = append-nil writes;
  })
  | inr few ↦ rw (le-leb (count + bytes) 3 few) (record {
    moved = [];
    left = writes;
    waits = waits;
    reads = λ others. refl;
    whole = refl;
  })
]

space_fits : (waiting count bytes : ℕ) → bytes ≤ 3 → (capacity_step waiting count bytes).count + bytes ≤ 3
unfolding capacity_step
space_fits waiting count bytes within = elim (cases_lt 3 (count + bytes)) [
  | inl many ↦ rw (lt-leb (count + bytes) 3 many) (omega arith)
  | inr few ↦ rw (le-leb (count + bytes) 3 few) (omega arith)
]

joined_byte : (waiting byte : ℕ) → waiting < 2 ^ 41 → byte < 256
    → bit_or (waiting * 2 ^ 8 % 2 ^ 64) byte ≡ waiting * 256 + byte
joined_byte waiting byte few small =
    rw (shl_whole waiting 41 8 64 few (omega arith)) (or_shifted waiting 8 byte small)

joined_two : (waiting number : ℕ) → waiting < 2 ^ 18 → number < 2 ^ 16
    → bit_or (waiting * 2 ^ 16 % 2 ^ 64) (bit_or (2 ^ 40) number) ≡ 2 ^ 40 + waiting * 2 ^ 16 + number
joined_two waiting number few small =
    let marked : bit_or (2 ^ 40) number ≡ 2 ^ 40 + number = or_shifted 1 40 number (omega arith) in
    let unreduced : waiting * 2 ^ 16 % 2 ^ 64 ≡ waiting * 2 ^ 16 + 0 = omega arith in
    let high : bit_or waiting (2 ^ 24) ≡ 2 ^ 24 + waiting =
    or_comm waiting (2 ^ 24) ∙ or_shifted 1 24 waiting (omega arith) in
    let block : bit_or (waiting * 2 ^ 16 + 0) (2 ^ 40 + number) ≡ bit_or waiting (2 ^ 24) * 2 ^ 16 + number =
    or_block 16 waiting (2 ^ 24) 0 number (omega arith) small in
    rw (unreduced, marked) (block ∙ omega (arith, high))

byte_keeps : (waiting count byte : ℕ) (writes : HashWrites) → Waits waiting count writes → byte < 256
    → Keeps (wait_step waiting count 1 byte) (writes ++ ((byte ∷ []) ∷ []))
unfolding wait_step
byte_keeps waiting count byte writes waits small =
    let space = capacity_step waiting count 1 in
    let kept = space_keeps waiting count 1 writes waits in
    let few : space.count < 3 = omega (arith, space_fits waiting count 1 (omega arith)) in
    record {
      moved = kept.moved;
      left = kept.left ++ ((byte ∷ []) ∷ []);
      waits = rw (joined_byte space.waiting byte (kept.waits.two few).0 small)
          (byte_waits space.waiting space.count byte kept.left kept.waits few small);
      reads = kept.reads;
      whole = joined_append kept.moved kept.left writes ((byte ∷ []) ∷ []) kept.whole;
    }

two_keep : (waiting count number : ℕ) (writes : HashWrites) → Waits waiting count writes → number < 2 ^ 16
    → Keeps (wait_step waiting count 2 (bit_or (2 ^ 40) number)) (writes ++ (to_le_bytes w16 number ∷ []))
unfolding wait_step
two_keep waiting count number writes waits small =
    let space = capacity_step waiting count 2 in
    let kept = space_keeps waiting count 2 writes waits in
    let few : space.count < 2 = omega (arith, space_fits waiting count 2 (omega arith)) in
    record {
      moved = kept.moved;
      left = kept.left ++ (to_le_bytes w16 number ∷ []);
      waits = rw (joined_two space.waiting number (kept.waits.one few) small)
          (two_wait space.waiting space.count number kept.left kept.waits few small);
      reads = kept.reads;
      whole = joined_append kept.moved kept.left writes (to_le_bytes w16 number ∷ []) kept.whole;
    }

number_keeps : (waiting count number : ℕ) (writes : HashWrites) → Waits waiting count writes
    → Keeps (number_step waiting number) (writes ++ word number)
unfolding number_step ungiven
number_keeps waiting count number writes waits = elim (cases_lt number 256) [
  | inl small ↦
      let joined : bit_or 512 number ≡ 512 + number = or_shifted 2 8 number small in
      rw (lt-ltb number 256 small) (record {
        moved = writes;
        left = word number;
        waits = rw joined (number_waits number small);
        reads = λ others. rest_is_ungiven waiting count writes others waits;
        whole = refl;
      })
  | inr great ↦
      let small : waiting < 2 ^ 63 = omega (arith, waits.any) in
      let marked : bit_or waiting (2 ^ 63) ≡ 2 ^ 63 + waiting =
      or_comm waiting (2 ^ 63) ∙ or_shifted 1 63 waiting small in
      rw (le-ltb number 256 great) (record {
        moved = writes ++ word number;
        left = [];
        waits = none_waits;
        reads = λ others.
            ap (λ (first : ℕ). ungiven false (word first ++ (word number ++ others))) marked
            ∙ marked_is_ungiven waiting (word number ++ others) small
            ∙ ap (λ (read : HashWrites). read ++ (word number ++ ungiven false others))
            (waits.unwaits 4 (omega (arith, waits.most)))
            ∙ sym (append_assoc writes (word number) (ungiven false others));
        whole = append-nil (writes ++ word number);
      })
]

plain_is_ungiven : (bytes : List ℕ) (others : HashWrites) → (length bytes ≡ 8 → ⊥)
    → ungiven false (bytes ∷ others) ≡ bytes ∷ ungiven false others
unfolding ungiven
plain_is_ungiven bytes others other = rw (ne_eqb (length bytes) 8 other)

plain_keeps : (waiting count : ℕ) (bytes : List ℕ) (writes : HashWrites) → Waits waiting count writes
    → (length bytes ≡ 8 → ⊥)
    → Keeps (record { given = rest_of waiting ++ bytes ∷ []; waiting = 1; count = 0 }) (writes ++ bytes ∷ [])
plain_keeps waiting count bytes writes waits other = record {
  moved = writes ++ bytes ∷ [];
  left = [];
  waits = none_waits;
  reads = λ others.
      ap (ungiven false) (append_assoc (rest_of waiting) (bytes ∷ []) others)
      ∙ rest_is_ungiven waiting count writes (bytes ∷ others) waits
      ∙ ap (λ (read : HashWrites). writes ++ read) (plain_is_ungiven bytes others other)
      ∙ sym (append_assoc writes (bytes ∷ []) (ungiven false others));
  whole = append-nil (writes ++ bytes ∷ []);
}

-- ---- any write

one_byte : (bytes : List ℕ) → length bytes ≡ 1 → slice_index bytes 0 ∷ [] ≡ bytes
one_byte [] one = absurd (omega arith)
one_byte (byte ∷ []) one = refl
one_byte (byte ∷ other ∷ bytes) one = absurd (omega arith)

step_keeps : (waiting count : ℕ) (bytes : List ℕ) (writes : HashWrites) → Waits waiting count writes
    → AreBytes bytes → Keeps (step_of waiting count bytes) (writes ++ bytes ∷ [])
unfolding step_of
step_keeps waiting count bytes writes waits small = elim (cases_eq (length bytes) 1) [
  | inl one ↦
      rw (eq-eqb (length bytes) 1 one)
      (subst (λ (read : List ℕ). Keeps (wait_step waiting count 1 (slice_index bytes 0)) (writes ++ read ∷ []))
      (one_byte bytes one) (byte_keeps waiting count (slice_index bytes 0) writes waits (small 0)))
  | inr not_one ↦ elim (cases_eq (length bytes) 2) [
    | inl two ↦
        rw (ne_eqb (length bytes) 1 not_one, eq-eqb (length bytes) 2 two)
        (subst
        (λ (read : List ℕ).
        Keeps (wait_step waiting count 2 (bit_or (2 ^ 40) (from_le_bytes w16 bytes))) (writes ++ read ∷ []))
        (le_bytes_2 bytes (from_le_bytes w16 bytes) two small refl)
        (two_keep waiting count (from_le_bytes w16 bytes) writes waits (omega (arith, small 0, small 1))))
    | inr not_two ↦ elim (cases_eq (length bytes) 8) [
      | inl eight ↦
          rw (ne_eqb (length bytes) 1 not_one, ne_eqb (length bytes) 2 not_two, eq-eqb (length bytes) 8 eight)
          (subst
          (λ (read : List ℕ). Keeps (number_step waiting (from_le_bytes w64 bytes)) (writes ++ read ∷ []))
          (le_bytes_8 bytes (from_le_bytes w64 bytes) eight small refl)
          (number_keeps waiting count (from_le_bytes w64 bytes) writes waits))
      | inr not_eight ↦
          rw (ne_eqb (length bytes) 1 not_one, ne_eqb (length bytes) 2 not_two, ne_eqb (length bytes) 8 not_eight)
          (plain_keeps waiting count bytes writes waits not_eight)
    ]
  ]
]

writes_are_ungiven : (waiting count : ℕ) (before writes : HashWrites) → Waits waiting count before
    → All AreBytes writes → ungiven false (given_after waiting count writes) ≡ before ++ writes
unfolding given_after ungiven
writes_are_ungiven waiting count before [] waits small =
    ap (ungiven false) (sym (append-nil (rest_of waiting))) ∙ rest_is_ungiven waiting count before [] waits
writes_are_ungiven waiting count before (bytes ∷ writes) waits small =
    let step = step_of waiting count bytes in
    let kept = step_keeps waiting count bytes before waits (small 0 [] (omega arith)) in
    kept.reads (given_after step.waiting step.count writes)
    ∙ ap (λ (read : HashWrites). kept.moved ++ read)
    (writes_are_ungiven step.waiting step.count kept.left writes kept.waits
    (λ k d within. small (suc k) d (omega arith)))
    ∙ joined_append kept.moved kept.left (before ++ bytes ∷ []) writes kept.whole
    ∙ append_assoc before (bytes ∷ []) writes

-- Lists of writes that are passed on alike are equal.
pub given_alike : (a b : HashWrites) → All AreBytes a → All AreBytes b → given_for a ≡ given_for b → a ≡ b
given_alike a b bytes others alike =
    sym (writes_are_ungiven 1 0 [] a none_waits bytes) ∙ ap (ungiven false) alike
    ∙ writes_are_ungiven 1 0 [] b none_waits others
