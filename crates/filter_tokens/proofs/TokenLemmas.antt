-- Lemmas about names, and about runs of bytes at the start of a text.
use Rattle.std.proofs.Common.{◌≡◌, ℕ, ◌+◌, ◌≤◌, Bool, true, false, not, cond, ltb, List, [], ◌∷◌, length, take_while, map, drop, get_or, ◌||◌, ◌<◌, Option, Bor}
use Rattle.std.proofs.Common.{Some, None, nat_eq, take, unwrap_or, refl, ap, ap₂, sym, ◌∙◌, arith}
use Rattle.std.specs.List.{list_any, position_from, position_or_len, prefix_len, starts_with}
use Rattle.std.proofs.lemmas.Grind.{common_steps}
use Rattle.std.proofs.lemmas.Iterator.Adapters.{position_from-zero}
use Rattle.std.proofs.lemmas.List.{drop_more}
use Rattle.std.proofs.lemmas.List.Folds.{length-prefix_len}
use Rattle.std.proofs.lemmas.List.Sums.{prefix_len-le-length}
use Rattle.std.proofs.lemmas.Bool.Decides.{Decides-eqb}
use Rattle.std.proofs.lemmas.Slice.Eq.{slice_eq-Decides}
use Rattle.filter_tokens.specs.declared.filter_error.FilterErrorKind.TheVariants as kind
use Rattle.filter_tokens.specs.Names.{is_text, lookup_name}
use Rattle.filter_tokens.specs.declared.token.TokenKind.{TokenKind}
use Rattle.filter_tokens.specs.ShownTokens.{shown_first, shown_token}
use Rattle.filter_tokens.specs.Tokens.{escaped_token, symbol_of, wrong}

cut_or_length : (a n : ℕ) → a ≤ n → unwrap_or (cond (ltb a n) (Some a) None) n ≡ a
cut_or_length a n h = grind (arith, common_steps)

-- The first place that passes, or else the length.
pub place_or_length : {A : Type 0} (p : A → Bool) (list : List A)
    → unwrap_or (position_from p 0 list) (length list) ≡ position_or_len p list
place_or_length p list =
    rw (← position_from-zero p list) (cut_or_length (position_or_len p list) (length list) (prefix_len-le-length _ list))

not_not : (b : Bool) → not (not b) ≡ b
not_not true = refl
not_not false = refl

prefix_of_not : {A : Type 0} (p : A → Bool) (list : List A) → position_or_len (λ x. not (p x)) list ≡ prefix_len p list
prefix_of_not p [] = refl
prefix_of_not p (first ∷ list) = ap₂ (λ b n. cond b (1 + n) 0) (not_not (p first)) (prefix_of_not p list)

-- The first place that fails, or else the length, is the length of the longest start that passes.
pub prefix_or_length : {A : Type 0} (p : A → Bool) (list : List A)
    → unwrap_or (position_from (λ x. not (p x)) 0 list) (length list) ≡ prefix_len p list
prefix_or_length p list = place_or_length (λ x. not (p x)) list ∙ prefix_of_not p list

-- The length of the longest start that passes, as it is found.
pub prefix_found : {A : Type 0} (p : A → Bool) (list : List A) (found : Option ℕ) (n : ℕ)
    → n ≡ unwrap_or found (length list) → found ≡ position_from (λ x. not (p x)) 0 list
    → (n ≡ prefix_len p list) × (n ≤ length list)
prefix_found p list found n is present =
    let same : n ≡ prefix_len p list =
    is ∙ ap (λ o. unwrap_or o (length list)) present ∙ prefix_or_length p list in
    (same, omega (arith, same, prefix_len-le-length p list))

pub place_found : {A : Type 0} (p : A → Bool) (list : List A) (found : Option ℕ) (n : ℕ)
    → n ≡ unwrap_or found (length list) → found ≡ position_from p 0 list
    → (n ≡ position_or_len p list) × (n ≤ length list)
place_found p list found n is present =
    let same : n ≡ position_or_len p list =
    is ∙ ap (λ o. unwrap_or o (length list)) present ∙ place_or_length p list in
    (same, omega (arith, same, prefix_len-le-length (λ x. not (p x)) list))

-- The longest start that passes has this length.
pub length_of_run : {A : Type 0} (p : A → Bool) (list : List A) → length (take_while p list) ≡ prefix_len p list
length_of_run p list = length-prefix_len p list

-- The token of a backslash without a run after it, and with one.
pub escaped_alone : (run : List ℕ) → length run ≡ 0 → escaped_token run ≡ (1, wrong kind.Character)
escaped_alone [] none = refl
escaped_alone (byte ∷ run) none = absurd (omega (arith, none))

pub escaped_run : (run : List ℕ) → 0 < length run → escaped_token run ≡ (length run + 1, wrong kind.NotTaken)
escaped_run [] some = absurd (omega (arith, some))
escaped_run (byte ∷ run) some =
    let e : 2 + length run ≡ length (byte ∷ run) + 1 = omega arith in ap (λ n. (n, wrong kind.NotTaken)) e

-- ---- names

-- The first of the names from index i on that equals a text: the one at index i, if that does, or one after it.
pub lookup_step : {V : Type 0} (text : List ℕ) (rows : List (Bor (List ℕ) × V)) (i : ℕ) (row : Bor (List ℕ) × V)
    (equal : Bool) → i < length rows → row ≡ get_or rows i row → is_text text row.0.now ≡ equal
    → lookup_name text (map (λ row. (row.0.now, row.1)) (drop i rows))
    ≡ cond equal (Some row.1) (lookup_name text (map (λ row. (row.0.now, row.1)) (drop (i + 1) rows)))
lookup_step {V} text rows i row equal inside here is =
    let others : Option V = lookup_name text (map (λ row. (row.0.now, row.1)) (drop (i + 1) rows)) in
    ap (λ l. lookup_name text (map (λ row. (row.0.now, row.1)) l)) (drop_more rows i row inside)
    ∙ ap (λ (r : Bor (List ℕ) × V). cond (is_text text r.0.now) (Some r.1) others) (sym here)
    ∙ ap (λ (b : Bool). cond b (Some row.1) others) is

-- Whether one of the names from index i on equals a text: the one at index i, or one after it.
pub any_step : (text : List ℕ) (names : List (Bor (List ℕ))) (i : ℕ) (name : Bor (List ℕ)) (equal : Bool)
    → i < length names → is_text text (get_or names i name).now ≡ equal
    → list_any (is_text text) (map (λ name. name.now) (drop i names))
    ≡ (equal || list_any (is_text text) (map (λ name. name.now) (drop (i + 1) names)))
any_step text names i name equal inside is =
    ap (λ l. list_any (is_text text) (map (λ name. name.now) l)) (drop_more names i name inside)
    ∙ ap (λ (b : Bool). b || list_any (is_text text) (map (λ name. name.now) (drop (i + 1) names))) is

-- ---- symbols

-- A text that begins with a symbol.
prefix_is : (text symbol : List ℕ) → starts_with nat_eq text symbol ≡ true → take (length symbol) text ≡ symbol
prefix_is text symbol begins = sym ((slice_eq-Decides Decides-eqb symbol (take (length symbol) text) _ refl).0 begins)

-- The first of the symbols from index i on is the token of a text that begins with it.
pub symbol_here : (text : List ℕ) (symbols : List (Bor (List ℕ) × TokenKind)) (i : ℕ) (row : Bor (List ℕ) × TokenKind)
    → i < length symbols → starts_with nat_eq text (get_or symbols i row).0.now ≡ true
    → shown_first (get_or symbols i row).1 (length (get_or symbols i row).0.now) text
    ≡ symbol_of (map (λ row. (row.0.now, shown_token row.1 row.0.now)) (drop i symbols)) text
symbol_here text symbols i row inside begins =
    let here = get_or symbols i row in
    let len : ℕ = length here.0.now in
    let same : take len text ≡ here.0.now = prefix_is text here.0.now begins in
    ap (λ (word : List ℕ). (len, shown_token here.1 word)) same
    ∙ sym (ap (λ l. symbol_of (map (λ row. (row.0.now, shown_token row.1 row.0.now)) l) text)
    (drop_more symbols i row inside)
    ∙ ap (λ b. cond b (len, shown_token here.1 here.0.now)
    (symbol_of (map (λ row. (row.0.now, shown_token row.1 row.0.now)) (drop (i + 1) symbols)) text)) begins)
