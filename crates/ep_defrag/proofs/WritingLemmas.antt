-- Writing of a fragment's bytes in two parts: the part within the data is overwritten, and the rest is appended.
use Rattle.std.proofs.Common.{◌≡◌, ℕ, ◌+◌, ◌-◌, ◌≤◌, min, List, [], ◌++◌, append_assoc, length, take, drop, replicate}
use Rattle.std.proofs.Common.{sym, ap, ◌∙◌, refl, arith, inl, inr}
use Rattle.std.proofs.lemmas.Bool.{cases_lt}
use Rattle.std.proofs.Math.Seq.{take-append-add, drop-append_seam}
use Rattle.std.proofs.lemmas.List.{append-nil, take-append-drop, take-append-le, drop_all, take_all, take-replicate}
use Rattle.std.proofs.lemmas.List.{length-take-le, length-append, length-replicate, replicate-append-replicate}
use Rattle.ep_defrag.specs.Buffers.{extended, overwritten}
use Rattle.ep_defrag.proofs.DataLemmas.{length-extended}

-- Data that reaches the end is not extended.
pub extended-within : (contents : List ℕ) (end : ℕ) → end ≤ length contents → extended contents end ≡ contents
extended-within contents end within =
    let none : end - length contents ≡ 0 = omega arith in
    rw none (append-nil contents)

-- Data that was extended in part is extended to the same end.
pub extended-more : (contents : List ℕ) (end count : ℕ) → count ≤ end - length contents
    → extended (contents ++ replicate count 0) end ≡ extended contents end
extended-more contents end count below =
    let longer : length (contents ++ replicate count 0) ≡ length contents + count =
    length-append contents (replicate count 0) ∙ ap (λ n. length contents + n) (length-replicate {A = ℕ} count 0) in
    let rest = end - length (contents ++ replicate count 0) in
    let parts : count + rest ≡ end - length contents = omega (arith, longer, below) in
    append_assoc contents (replicate count 0) (replicate rest 0)
    ∙ ap (λ (zeros : List ℕ). contents ++ zeros)
    (replicate-append-replicate count rest 0 ∙ ap (λ n. replicate {A = ℕ} n 0) parts)

-- The bytes before a position do not depend on how far after it the data is extended.
take-extended : (contents : List ℕ) (start end : ℕ) → start ≤ end
    → take start (extended contents start) ≡ take start (extended contents end)
take-extended contents start end before = elim (cases_lt (length contents) start) [
  | inl gap ↦
      let count = start - length contents in
      let more = end - length contents in
      let parts : start ≡ length contents + count = omega arith in
      take_all start (extended contents start)
      (omega (arith, length-extended contents start))
      ∙ sym
      (ap (λ place. take place (extended contents end)) parts
      ∙ take-append-add contents (replicate more 0) count
      ∙ ap (λ zeros. contents ++ zeros) (take-replicate count more 0 (omega arith)))
  | inr none ↦
      ap (take start) (extended-within contents start none)
      ∙ sym (take-append-le start contents (replicate (end - length contents) 0) none)
]

pub put_in_parts : (contents payload : List ℕ) (start within : ℕ)
    → within ≡ min (length payload) (length (extended contents start) - start)
    → overwritten (extended contents start ++ drop within payload) start (take within payload)
    ≡ overwritten (extended contents (start + length payload)) start payload
put_in_parts contents payload start within split =
    let padded = extended contents start in
    let end = start + length payload in
    let rest = drop within payload in
    let padded_len = length-extended contents start in
    let taken : length (take within payload) ≡ within = length-take-le within payload (omega (arith, split)) in
    elim (cases_lt (length contents) end) [
      | inl longer ↦
          let seam : start + length (take within payload) ≡ length padded = omega (arith, split, taken, padded_len) in
          let before : take start (padded ++ rest) ≡ take start (extended contents end) =
          take-append-le start padded rest (omega (arith, padded_len))
          ∙ take-extended contents start end (omega arith) in
          let after : drop (start + length (take within payload)) (padded ++ rest) ≡ rest =
          ap (λ place. drop place (padded ++ rest)) seam ∙ drop-append_seam padded rest in
          let nothing : drop end (extended contents end) ≡ [] =
          drop_all end (extended contents end) (omega (arith, length-extended contents end)) in
          rw (before, after, nothing)
          (append_assoc (take start (extended contents end)) (take within payload) rest
          ∙ ap (λ part. take start (extended contents end) ++ part) (take-append-drop within payload)
          ∙ sym (append-nil (take start (extended contents end) ++ payload)))
      | inr inside ↦
          let all : within ≡ length payload = omega (arith, split, padded_len) in
          let same : padded ++ rest ≡ extended contents end =
          ap (λ part. padded ++ part) (drop_all within payload (omega (arith, all))) ∙ append-nil padded
          ∙ extended-within contents start (omega arith) ∙ sym (extended-within contents end inside) in
          rw (same, take_all within payload (omega (arith, all))) refl
    ]
