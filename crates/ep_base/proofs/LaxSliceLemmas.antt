-- Contracts of slices of the bytes after a header that are limited by a length field, if the field applies.
use Rattle.std.proofs.Common.{◌≡◌, ◌⊎◌, ℕ, ◌+◌, ◌-◌, ◌≤◌, ◌<◌, ◌||◌, nat_lt, Bool, false, List, [], ◌++◌, length, take, drop, refl, sym, ap, subst, ◌∙◌, inl, inr, arith, append_assoc, length-drop, take-append-drop}
use Rattle.std.proofs.Common.{Result, Ok, Err}
use Rattle.std.specs.Prelude.{IfOk, IfErr, IsOkAnd}
use Rattle.std.proofs.lemmas.List.{append-nil, drop_at, length-take, take_all}
use Rattle.ep_base.specs.LaxCut.{LaxCut, IsLaxCut}
use Rattle.ep_base.specs.declared.len_source.LenSource.{LenSource}
use Rattle.ep_base.specs.declared.len_source.LenSource.TheVariants as source
use Rattle.ep_base.proofs.LaxCutLemmas.{cut_present, cut_nowhere}

-- The bytes after a header, limited by a length field to a payload and trailing bytes.
abbrev pub lax_cut_with : List ℕ → List ℕ → LenSource → Bool → LaxCut
lax_cut_with payload left end incomplete =
    record { payload = payload; left = left; source = end; incomplete = incomplete }

-- A field that does not apply leaves all bytes after the header as payload.
pub slice_complete : (least stated : ℕ) (named : LenSource) (outer : Bool) (n : ℕ) (bytes : List ℕ) → n ≤ length bytes
    → (stated < least) ⊎ (length bytes < stated)
    → IsLaxCut least stated named outer n (drop n bytes)
    (lax_cut_with (take (length bytes - n) (drop n bytes)) [] source.Slice (outer || nat_lt (length bytes) stated))
slice_complete least stated named outer n bytes within why =
    let after = drop n bytes in
    let none = append-nil after in
    let present : n + length (after ++ []) ≡ length bytes = omega (arith, ap length none, length-drop n bytes) in
    let all : after ≡ take (length bytes - n) after =
    sym (take_all (length bytes - n) after (omega (arith, length-drop n bytes))) in
    let why_present : (stated < least) ⊎ (n + length (after ++ []) < stated) =
    elim why [ inl short ↦ inl short | inr long ↦ inr (omega (arith, present)) ] in
    let cut = cut_nowhere least stated named outer n after [] why_present refl in
    let shown = subst (λ (m : ℕ). IsLaxCut least stated named outer n (after ++ [])
    (lax_cut_with after [] source.Slice (outer || nat_lt m stated))) present cut in
    let bare = subst (λ (b : List ℕ). IsLaxCut least stated named outer n b
    (lax_cut_with after [] source.Slice (outer || nat_lt (length bytes) stated))) none shown in
    subst (λ (p : List ℕ). IsLaxCut least stated named outer n after
    (lax_cut_with p [] source.Slice (outer || nat_lt (length bytes) stated))) all bare

-- A field that applies limits the payload to the bytes it counts.
pub slice_cut : (least stated : ℕ) (named : LenSource) (outer : Bool) (n : ℕ) (bytes : List ℕ) → n ≤ least → least ≤ stated
    → stated ≤ length bytes
    → IsLaxCut least stated named outer n (drop n bytes)
    (lax_cut_with (take (stated - n) (drop n bytes)) (drop (stated - n) (drop n bytes)) named false)
slice_cut least stated named outer n bytes after_header enough within =
    let after = drop n bytes in
    let payload = take (stated - n) after in
    let left = drop (stated - n) after in
    let complete : payload ++ left ≡ after = take-append-drop (stated - n) after in
    let after_len = length-drop n bytes in
    subst (λ (b : List ℕ). IsLaxCut least stated named outer n b (lax_cut_with payload left named false)) complete
    (cut_present least stated named outer n payload left enough (omega (arith, ap length complete, after_len))
    (omega (arith, length-take (stated - n) after, after_len)))

-- The bytes are a header, the parsed bytes after it, and trailing bytes.
pub parts_shown : (bytes prefix rest content inner left : List ℕ) (n : ℕ) → bytes ≡ prefix ++ rest → n ≡ length prefix
    → drop n bytes ≡ content ++ left → content ≡ inner → bytes ≡ (prefix ++ inner) ++ left
parts_shown bytes prefix rest content inner left n parts len cut inside =
    let after : drop n bytes ≡ rest = ap (drop n) parts ∙ drop_at prefix rest n (sym len) in
    parts ∙ ap (λ (s : List ℕ). prefix ++ s) (sym after ∙ cut ∙ ap (λ (s : List ℕ). s ++ left) inside)
    ∙ sym (append_assoc prefix inner left)

-- A result is Ok and meets the condition if its error is impossible.
pub only_answer : {A E : Type 0} (answer : Result A E) (Is Shown : A → Type 0) (Refuses : E → Type 0)
    → IfOk answer Is → IfErr answer Refuses → ((a : A) → Is a → Shown a) → ((e : E) → Refuses e → ⊥)
    → IsOkAnd answer Shown
only_answer (Ok a) Is Shown Refuses ok err shown never = shown a ok
only_answer (Err e) Is Shown Refuses ok err shown never = absurd (never e err)
