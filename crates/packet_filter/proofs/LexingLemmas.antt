-- Lemmas about reading a text as tokens, from its end to its start.
use Rattle.std.proofs.Common.{◌≡◌, ℕ, suc, ◌+◌, ◌-◌, ◌≤◌, Bool, true, false, cond, List, [], ◌∷◌, ◌++◌, length, drop, take_while, refl, ap, sym, subst, ◌∙◌, arith}
use Rattle.std.proofs.lemmas.List.{drop_at}
use Rattle.std.proofs.lemmas.List.Elements.{All-cons, All-nil}
use Rattle.std.proofs.lemmas.List.Sums.{take_while-cons}
use Rattle.std.specs.Prelude.{IsTrue}
use Rattle.filter_tokens.specs.Tokens.{Token, Placed, IsTokens, first_token, is_blank, tokens_of}

-- A text consists of these tokens, with blanks before and after them.
pub data IsLexed : List ℕ → List Token → Type 0 where
  no_text : IsLexed [] []
  blank : (byte : ℕ) (text : List ℕ) (tokens : List Token) → is_blank byte ≡ true → IsLexed text tokens
      → IsLexed (byte ∷ text) tokens
  piece : (first : ℕ) (others rest : List ℕ) (token : Token) (tokens : List Token) → is_blank first ≡ false
      → first_token (first ∷ (others ++ rest)) ≡ (suc (length others), token) → IsLexed rest tokens
      → IsLexed (first ∷ (others ++ rest)) (token ∷ tokens)

-- ---- the places of the tokens

blanks_more : (byte : ℕ) (text : List ℕ) → is_blank byte ≡ true
    → length (take_while is_blank (byte ∷ text)) ≡ suc (length (take_while is_blank text))
blanks_more byte text is =
    ap length (take_while-cons is_blank byte text)
    ∙ ap (λ (b : Bool). length (cond b (byte ∷ take_while is_blank text) [])) is

no_blanks : (byte : ℕ) (text : List ℕ) → is_blank byte ≡ false → length (take_while is_blank (byte ∷ text)) ≡ 0
no_blanks byte text is =
    ap length (take_while-cons is_blank byte text)
    ∙ ap (λ (b : Bool). length (cond b (byte ∷ take_while is_blank text) [])) is

drop_next : (place at : ℕ) (byte : ℕ) (text : List ℕ) → suc at ≤ place
    → drop (place - at) (byte ∷ text) ≡ drop (place - suc at) text
drop_next place at byte text later =
    let next_place : place - at ≡ suc (place - suc at) = omega (arith, later) in
    ap (λ (n : ℕ). drop n (byte ∷ text)) next_place

-- A blank before a text.
blank_before : (at byte : ℕ) (text : List ℕ) (placed : List Placed) → is_blank byte ≡ true
    → IsTokens (suc at) text placed → IsTokens at (byte ∷ text) placed
blank_before at byte text [] is read = All-cons (λ b. IsTrue (is_blank b)) byte text is read
blank_before at byte text (first ∷ others) is (start, some, token, rest) =
    let blanks : length (take_while is_blank (byte ∷ text)) ≡ suc (length (take_while is_blank text)) =
    blanks_more byte text is in
    let later : suc at ≤ first.start = omega (arith, start) in
    let later_end : suc at ≤ first.end = omega (arith, start, some) in (
      omega (arith, start, blanks),
      some,
      ap first_token (drop_next first.start at byte text later) ∙ token,
      subst (λ (list : List ℕ). IsTokens first.end list others) (sym (drop_next first.end at byte text later_end)) rest,
    )

-- A token before a text.
piece_before : (at first : ℕ) (others rest : List ℕ) (token : Token) (placed : List Placed) → is_blank first ≡ false
    → first_token (first ∷ (others ++ rest)) ≡ (suc (length others), token)
    → IsTokens (at + suc (length others)) rest placed
    → IsTokens at (first ∷ (others ++ rest))
    (record { token = token; start = at; end = at + suc (length others) } ∷ placed)
piece_before at first others rest token placed not_blank is read =
    let none : length (take_while is_blank (first ∷ (others ++ rest))) ≡ 0 =
    no_blanks first (others ++ rest) not_blank in
    let here : at - at ≡ 0 = omega arith in
    let size : at + suc (length others) - at ≡ suc (length others) = omega arith in
    let left : drop (suc (length others)) (first ∷ (others ++ rest)) ≡ rest =
    drop_at others rest (length others) refl in (
      omega (arith, none),
      omega arith,
      ap (λ (n : ℕ). first_token (drop n (first ∷ (others ++ rest)))) here ∙ is
          ∙ ap (λ (n : ℕ). (n, token)) (sym size),
      subst (λ (list : List ℕ). IsTokens (at + suc (length others)) list placed)
          (sym (ap (λ (n : ℕ). drop n (first ∷ (others ++ rest))) size ∙ left)) read,
    )

-- A text that consists of tokens has them at places.
pub placed_tokens : (text : List ℕ) (tokens : List Token) (at : ℕ) → IsLexed text tokens
    → (placed : List Placed) × IsTokens at text placed × (tokens_of placed ≡ tokens)
placed_tokens text tokens at no_text = ([], All-nil (λ b. IsTrue (is_blank b)), refl)
placed_tokens text tokens at (blank byte others more is lexed) =
    let (placed, read, same) = placed_tokens others more (suc at) lexed in
    (placed, blank_before at byte others placed is read, same)
placed_tokens text tokens at (piece first others rest token more not_blank is lexed) =
    let (placed, read, same) = placed_tokens rest more (at + suc (length others)) lexed in (
      record { token = token; start = at; end = at + suc (length others) } ∷ placed,
      piece_before at first others rest token placed not_blank is read,
      ap (λ (list : List Token). token ∷ list) same,
    )
