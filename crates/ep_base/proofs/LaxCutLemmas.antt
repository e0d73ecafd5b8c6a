-- Lemmas that a length field splits the bytes after a header in exactly one way.
use Rattle.std.proofs.Common.{◌≡◌, ◌⊎◌, ℕ, ◌+◌, ◌-◌, ◌≤◌, ◌<◌, ◌&&◌, ◌||◌, not, nat_lt, Bool, true, false, if◌then◌else◌, List, [], ◌++◌, length, take, drop, refl, sym, ap, subst, ◌∙◌, inl, inr, arith, length-append}
use Rattle.std.proofs.lemmas.Grind.{common_steps}
use Rattle.std.proofs.lemmas.Bool.{cases_lt}
use Rattle.std.proofs.lemmas.List.{append-nil, length-take, take-append-drop}
use Rattle.ep_base.specs.LaxCut.{LaxCut, IsLaxCut, cuts}
use Rattle.ep_base.specs.declared.len_source.LenSource.{LenSource}
use Rattle.ep_base.specs.declared.len_source.LenSource.TheVariants as source
use Rattle.ep_base.specs.Tables.{IsOne}
use Rattle.ep_base.proofs.BytesLemmas.{same_parts}

-- Splits with equal parts are equal.
same_cut : (a b : LaxCut) → a.payload ≡ b.payload → a.left ≡ b.left → a.source ≡ b.source
    → a.incomplete ≡ b.incomplete → a ≡ b
same_cut a b payload left source incomplete i =
    record { payload = payload i; left = left i; source = source i; incomplete = incomplete i }

-- A length field splits the bytes in at most one way.
pub one_lax_cut : (least stated : ℕ) (named : LenSource) (outer : Bool) (header_len : ℕ) (after : List ℕ)
    (cut other : LaxCut) → IsLaxCut least stated named outer header_len after cut
    → IsLaxCut least stated named outer header_len after other → cut ≡ other
one_lax_cut least stated named outer header_len after cut other a b =
    let len : header_len + length cut.payload ≡ header_len + length other.payload = a.ends ∙ sym b.ends in
    let same = same_parts cut.payload other.payload cut.left other.left (omega arith) (sym a.parts ∙ b.parts) in
    same_cut cut other same.0 same.1 (a.source ∙ sym b.source) (a.incomplete ∙ sym b.incomplete)

-- A length field from the minimum up to the number of available bytes applies.
pub cuts_present : (least stated present : ℕ) → least ≤ stated → stated ≤ present → cuts least stated present ≡ true
cuts_present least stated present enough within = grind (arith, common_steps)

-- A length field below the minimum or above the number of available bytes does not apply.
pub cuts_not : (least stated present : ℕ) → (stated < least) ⊎ (present < stated) → cuts least stated present ≡ false
cuts_not least stated present (inl short) = grind (arith, common_steps)
cuts_not least stated present (inr long) = grind (arith, common_steps)

-- The split by a length field that applies.
pub cut_present : (least stated : ℕ) (named : LenSource) (outer : Bool) (header_len : ℕ) (payload left : List ℕ)
    → least ≤ stated → stated ≤ header_len + length (payload ++ left) → header_len + length payload ≡ stated
    → IsLaxCut least stated named outer header_len (payload ++ left)
    (record { payload = payload; left = left; source = named; incomplete = false })
cut_present least stated named outer header_len payload left enough within len =
    let present = header_len + length (payload ++ left) in
    let cut = sym (cuts_present least stated present enough within) in
    record {
      parts = refl;
      ends = len ∙ (λ i. if cut i then stated else present);
      source = λ i. if cut i then named else source.Slice;
      incomplete = λ i. not (cut i) && (outer || nat_lt present stated);
    }

-- The split if the length field does not apply.
pub cut_nowhere : (least stated : ℕ) (named : LenSource) (outer : Bool) (header_len : ℕ) (payload left : List ℕ)
    → (stated < least) ⊎ (header_len + length (payload ++ left) < stated) → length left ≡ 0
    → IsLaxCut least stated named outer header_len (payload ++ left) (record {
      payload = payload;
      left = left;
      source = source.Slice;
      incomplete = outer || nat_lt (header_len + length (payload ++ left)) stated;
    })
cut_nowhere least stated named outer header_len payload left why none =
    let present = header_len + length (payload ++ left) in
    let cut = sym (cuts_not least stated present why) in
    let all : header_len + length payload ≡ present = omega (arith, length-append payload left) in
    record {
      parts = refl;
      ends = all ∙ (λ i. if cut i then stated else present);
      source = λ i. if cut i then named else source.Slice;
      incomplete = λ i. not (cut i) && (outer || nat_lt present stated);
    }

-- If the minimum of the length field is at least the header length, the bytes are split in exactly one way.
pub lax_cut_is_one : (least stated : ℕ) (named : LenSource) (outer : Bool) (header_len : ℕ) (after : List ℕ)
    → header_len ≤ least → IsOne (IsLaxCut least stated named outer header_len after)
lax_cut_is_one least stated named outer header_len after enough =
    let present = header_len + length after in
    let nowhere : (stated < least) ⊎ (present < stated) → IsOne (IsLaxCut least stated named outer header_len after) =
    λ why.
    let complete : after ++ [] ≡ after = append-nil after in
    let why_present : (stated < least) ⊎ (header_len + length (after ++ []) < stated) =
    elim why [ inl short ↦ inl short | inr long ↦ inr (omega (arith, ap length complete)) ] in
    let cut = subst (λ (b : List ℕ). (c : LaxCut) × IsLaxCut least stated named outer header_len b c) complete
    (_, cut_nowhere least stated named outer header_len after [] why_present refl) in
    record {
      value = cut.0;
      is = cut.1;
      only = λ other is. one_lax_cut least stated named outer header_len after other cut.0 is cut.1;
    } in
    elim (cases_lt stated least) [
      | inl short ↦ nowhere (inl short)
      | inr long ↦ elim (cases_lt present stated) [
        | inl more ↦ nowhere (inr more)
        | inr within ↦
            let n = stated - header_len in
            let complete : take n after ++ drop n after ≡ after = take-append-drop n after in
            let cut = subst (λ (b : List ℕ). (c : LaxCut) × IsLaxCut least stated named outer header_len b c) complete (
              _,
              cut_present least stated named outer header_len (take n after) (drop n after) long
                  (omega (arith, ap length complete)) (omega (arith, length-take n after)),
            ) in
            record {
              value = cut.0;
              is = cut.1;
              only = λ other is. one_lax_cut least stated named outer header_len after other cut.0 is cut.1;
            }
      ]
    ]
