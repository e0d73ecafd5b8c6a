-- One's complement sums of little-endian words.
use Rattle.std.proofs.Common.{◌≡◌, ℕ, zero, suc, ◌+◌, ◌*◌, ◌%◌, ◌==◌, ◌<◌, nat_eq, Bool, true, false, List, [], ◌∷◌, ◌++◌, length, refl, sym, ap, ◌∙◌, arith}
use Rattle.std.proofs.lemmas.Bool.{eq-eqb, eqb-true}
use Rattle.std.proofs.lemmas.List.{length-append}
use Rattle.std.specs.Int.{w32, from_le_bytes}
use Rattle.ep_base.specs.Checksum.{ones_sum, residue, word_sum}
use Rattle.ep_base.proofs.ResidueLemmas.{residue_beside, residue_times_256, residue_unique}
use Rattle.ep_base.proofs.SumLemmas.{word_sum-append}

-- A little-endian 32 bit number times 256 has the residue of the sum of its words.
pub turned_of_32 : (bytes : List ℕ) → length bytes ≡ 4
    → residue (256 * from_le_bytes w32 bytes) ≡ residue (word_sum bytes)
turned_of_32 (a ∷ b ∷ c ∷ d ∷ []) long =
    residue_unique _ _ 0 (b + 256 * c + 65537 * d) (omega arith) (λ z. omega arith) (λ z. omega arith)
turned_of_32 _ long = absurd (omega arith)

-- Bytes that are added to a sum of little-endian words are added to the sum of the words.
pub more_words : (sum new before added : ℕ) → residue (256 * sum) ≡ residue before
    → residue (256 * new) ≡ residue (256 * sum + added) → residue (256 * new) ≡ residue (before + added)
more_words sum new before added is more = more ∙ residue_beside (256 * sum) before added is

-- The first bytes are added to 0.
pub first_words : (sum added : ℕ) → residue (256 * sum) ≡ residue (256 * 0 + added)
    → residue (256 * sum) ≡ residue added
first_words sum added more = more ∙ ap residue (omega arith)

-- The word sum of a pseudo header of four parts, and of a message.
pub pseudo_words : (source destination third fourth message : List ℕ) → length source % 2 ≡ 0
    → length destination % 2 ≡ 0 → length third % 2 ≡ 0 → length fourth % 2 ≡ 0
    → word_sum third + word_sum fourth + word_sum source + word_sum destination + word_sum message
    ≡ word_sum ((source ++ (destination ++ (third ++ fourth))) ++ message)
pseudo_words source destination third fourth message p q r s =
    let inner = third ++ fourth in
    let outer = destination ++ inner in
    let inner_long = length-append third fourth in
    let outer_long = length-append destination inner in
    let all_long = length-append source outer in
    let inner_words = word_sum-append third fourth r in
    let outer_words = word_sum-append destination inner q in
    let all_words = word_sum-append source outer p in
    let with_message = word_sum-append (source ++ outer) message (omega (arith, inner_long, outer_long, all_long)) in
    omega (arith, inner_words, outer_words, all_words, with_message)

-- The sum of a pseudo header of four parts and of a message, if each is added to the sum, first the two parts after the
-- addresses.
pub message_words : (source destination third fourth message : List ℕ) (a b c d e : ℕ) → length source % 2 ≡ 0
    → length destination % 2 ≡ 0 → length third % 2 ≡ 0 → length fourth % 2 ≡ 0
    → residue (256 * a) ≡ residue (256 * 0 + word_sum third)
    → residue (256 * b) ≡ residue (256 * a + word_sum fourth)
    → residue (256 * c) ≡ residue (256 * b + word_sum source)
    → residue (256 * d) ≡ residue (256 * c + word_sum destination)
    → residue (256 * e) ≡ residue (256 * d + word_sum message)
    → residue (256 * e) ≡ ones_sum ((source ++ (destination ++ (third ++ fourth))) ++ message)
unfolding ones_sum
message_words source destination third fourth message a b c d e p q r s first second next last complete =
    let one = first_words a (word_sum third) first in
    let two = more_words a b _ (word_sum fourth) one second in
    let three = more_words b c _ (word_sum source) two next in
    let four = more_words c d _ (word_sum destination) three last in
    more_words d e _ (word_sum message) four complete
    ∙ ap residue (pseudo_words source destination third fourth message p q r s)

-- A sum of little-endian words has the residue 65535 if and only if that of big-endian words has it.
pub all_ones : (n : ℕ) → residue n ≡ 65535 → residue (256 * n) ≡ 65535
all_ones n is = residue_times_256 n 65535 is

pub all_ones_back : (n : ℕ) → residue (256 * n) ≡ 65535 → residue n ≡ 65535
all_ones_back n is =
    let turned : residue (256 * (256 * n)) ≡ residue n =
    residue_unique (256 * (256 * n)) n 0 n (omega arith) (λ z. omega arith) (λ z. omega arith) in
    sym turned ∙ residue_times_256 (256 * n) 65535 is

same_truth : (a b : Bool) → (a ≡ true → b ≡ true) → (b ≡ true → a ≡ true) → a ≡ b
same_truth true b on off = sym (on refl)
same_truth false true on off = off refl
same_truth false false on off = refl

-- A sum that is not 0 has the residue 65535 if and only if it is a multiple of 65535, as is a part of it that differs by
-- such a multiple.
pub full : (n s k : ℕ) → n ≡ 65535 * k + s → 0 < s → nat_eq (s % 65535) 0 ≡ (residue (256 * n) == 65535)
full zero s k complete some = absurd (omega arith)
full (suc m) s k complete some =
    same_truth _ _ (λ zero_left.
    let none = eqb-true (s % 65535) 0 zero_left in
    let ones : residue (suc m) ≡ 65535 = omega arith in
    eq-eqb _ 65535 (all_ones (suc m) ones))
    (λ is_full.
    let ones = all_ones_back (suc m) (eqb-true _ 65535 is_full) in
    let none : s % 65535 ≡ 0 = omega arith in
    eq-eqb _ 0 none)
