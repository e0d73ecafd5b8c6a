-- Lemmas about the tokens of a text: every text has one list of tokens, which is read from the front.
use Rattle.std.proofs.Common.{◌≡◌, ◌≢◌, ℕ, zero, suc, get_or, ne_eqb, ◌+◌, ◌-◌, ◌<◌, ◌≤◌, ◌==◌, ◌&&◌, ◌||◌, not, Bool, true, false, cond, Option, Some, None, append-nil, codes, nat_eq, All, IsTrue, List, [], ◌∷◌, ◌++◌, append_assoc, length, take_while, drop, take, refl, ap, sym, ◌∙◌, subst, arith, ap₂, eqb-true, lit<, length-drop, length-take}
use Rattle.std.specs.List.{before_first, list_any, position_or_len, prefix_len, starts_with}
use Rattle.std.proofs.Math.Seq.{drop-nil}
use Rattle.std.proofs.lemmas.List.{take-take, take_min}
use Rattle.filter_tokens.specs.declared.filter_error.FilterErrorKind.TheVariants as kind
use Rattle.filter_tokens.specs.declared.keyword.Keyword.{Keyword}
use Rattle.filter_tokens.specs.Names.{is_text, keyword_names, lookup_name, not_taken_words}
use Rattle.filter_tokens.specs.Tokens.{Placed, Token, IsTokens, escaped_token, first_token, has_two_colons, is_alphanumeric, is_blank, is_colon, is_run_byte, run_of, symbol_of, symbols, word_of, keyword_or_word, word, word_token, wrong}
use Rattle.filter_tokens.specs.Tokens as Tokens
use Rattle.filter_tokens.specs.declared.token.TokenKind.{TokenKind}
use Rattle.filter_tokens.specs.declared.token.TokenKind.TheVariants as TheKinds
use Rattle.filter_tokens.specs.ShownTokens.{shown_first, shown_token}
use Rattle.filter_tokens.proofs.TokenLemmas.{length_of_run}

-- Tokens that a text begins with, up to an offset: with the tokens of the rest they are those of the text.
abbrev pub IsStart : List ℕ → List Placed → ℕ → Type 0
IsStart text prefix at =
    (at ≤ length text)
    × ((others : List Placed) → IsTokens at (drop at text) others → IsTokens 0 text (prefix ++ others))

pub no_prefix : (text : List ℕ) → IsStart text [] 0
no_prefix text = (omega arith, λ others are. are)

drop_to : (at end : ℕ) (text : List ℕ) → at ≤ end → drop (end - at) (drop at text) ≡ drop end text
drop_to zero end text before = let same : end - 0 ≡ end = omega arith in ap (λ n. drop n text) same
drop_to (suc at) end [] before = drop-nil (end - suc at) ∙ sym (drop-nil end)
drop_to (suc at) zero (byte ∷ text) before = absurd (omega (arith, before))
drop_to (suc at) (suc end) (byte ∷ text) before =
    let same : suc end - suc at ≡ end - at = omega arith in
    ap (λ n. drop n (drop at text)) same ∙ drop_to at end text (omega (arith, before))

-- With the next token, they are the tokens up to its end.
pub prefix_more : (text : List ℕ) (prefix : List Placed) (at : ℕ) (first : Placed) → IsStart text prefix at
    → first.start ≡ at + length (take_while is_blank (drop at text)) → first.start < first.end → first.end ≤ length text
    → first_token (drop first.start text) ≡ (first.end - first.start, first.token)
    → IsStart text (prefix ++ first ∷ []) first.end
prefix_more text prefix at first is start some inside here =
    let to_start : drop (first.start - at) (drop at text) ≡ drop first.start text =
    drop_to at first.start text (omega (arith, start)) in
    let to_end : drop (first.end - at) (drop at text) ≡ drop first.end text =
    drop_to at first.end text (omega (arith, start, some)) in (
      inside,
      λ others are. subst (λ (list : List Placed). IsTokens 0 text list) (sym (append_assoc prefix (first ∷ []) others))
          (is.1 (first ∷ others) (
            start,
            some,
            ap first_token to_start ∙ here,
            subst (λ (rest : List ℕ). IsTokens first.end rest others) (sym to_end) are,
          )),
    )

-- ---- a token has a byte

choose : {A : Type 0} (P : A → Type 0) (b : Bool) (x y : A) → (b ≡ true → P x) → (b ≡ false → P y) → P (cond b x y)
choose P true x y left right = left refl
choose P false x y left right = right refl

is_or : (b c : Bool) → b ≡ true → (b || c) ≡ true
is_or true c is = refl
is_or false c is = let never : ⊥ = cc in absurd never

or_is : (b c : Bool) → c ≡ true → (b || c) ≡ true
or_is true c is = refl
or_is false c is = is

and_left : (b c : Bool) → (b && c) ≡ true → b ≡ true
and_left true c is = refl
and_left false c is = let never : ⊥ = cc in absurd never

kept_first : (p : ℕ → Bool) (byte : ℕ) (text : List ℕ) → p byte ≡ true
    → take_while p (byte ∷ text) ≡ byte ∷ take_while p text
kept_first p byte text is =
    ap (λ b. take (cond b (1 + prefix_len p text) 0) (byte ∷ text)) is ∙ one_more (prefix_len p text)
  where
    one_more : (n : ℕ) → take (1 + n) (byte ∷ text) ≡ byte ∷ take n text
    one_more n = let same : 1 + n ≡ suc n = omega arith in ap (λ k. take k (byte ∷ text)) same

run_has_first : (byte : ℕ) (text : List ℕ) → is_run_byte byte ≡ true → run_of (byte ∷ text) ≡ byte ∷ run_of text
run_has_first byte text is = kept_first is_run_byte byte text is

no_colon_first : (byte : ℕ) (run : List ℕ) → is_colon byte ≡ false → 0 < length (before_first is_colon (byte ∷ run))
no_colon_first byte run is =
    subst (λ (b : Bool). 0 < length (take (cond (not b) (1 + position_or_len is_colon run) 0) (byte ∷ run))) (sym is)
    (one_more (position_or_len is_colon run))
  where
    one_more : (n : ℕ) → 0 < length (take (1 + n) (byte ∷ run))
    one_more n =
        let same : suc n ≡ 1 + n = omega arith in
        subst (λ (k : ℕ). 0 < length (take k (byte ∷ run))) same (omega arith)

alphanumeric_no_colon : (byte : ℕ) → is_alphanumeric byte ≡ true → is_colon byte ≡ false
alphanumeric_no_colon byte is = go (is_colon byte) refl
  where
    go : (b : Bool) → is_colon byte ≡ b → is_colon byte ≡ false
    go false e = e
    go true e =
        let clash : is_alphanumeric 58 ≡ true = subst (λ (n : ℕ). is_alphanumeric n ≡ true) (eqb-true byte 58 e) is in
        let never : ⊥ = cc in absurd never

word_has_byte : (byte : ℕ) (text : List ℕ) → is_alphanumeric byte ≡ true → 0 < length (word_of (byte ∷ text))
word_has_byte byte text is =
    let run = run_has_first byte text (is_or (is_alphanumeric byte) _ is) in
    choose (λ (w : List ℕ). 0 < length w) (has_two_colons (run_of (byte ∷ text))) (run_of (byte ∷ text))
    (before_first is_colon (run_of (byte ∷ text)))
    (λ two. subst (λ (w : List ℕ). 0 < length w) (sym run) (omega arith))
    (λ few. subst (λ (w : List ℕ). 0 < length (before_first is_colon w)) (sym run)
    (no_colon_first byte (run_of text) (alphanumeric_no_colon byte is)))

colons_have_byte : (byte : ℕ) (text : List ℕ) → is_colon byte ≡ true → 0 < length (run_of (byte ∷ text))
colons_have_byte byte text is =
    let run = run_has_first byte text
    (or_is (is_alphanumeric byte) _ (or_is (byte == 46) _ (or_is (byte == 95) _ (is_or (is_colon byte) _ is)))) in
    subst (λ (w : List ℕ). 0 < length w) (sym run) (omega arith)

escaped_has_byte : (run : List ℕ) → 0 < (escaped_token run).0
escaped_has_byte [] = lit< tt
escaped_has_byte (byte ∷ run) = omega arith

abbrev AllLong : List (List ℕ × Token) → Type 0
AllLong [] = Unit {0}
AllLong (row ∷ rows) = (0 < length row.0) × AllLong rows

symbol_has_byte : (rows : List (List ℕ × Token)) (text : List ℕ) → AllLong rows → 0 < (symbol_of rows text).0
symbol_has_byte [] text long = omega arith
symbol_has_byte (row ∷ rows) text long =
    choose (λ (t : ℕ × Token). 0 < t.0) (starts_with nat_eq text row.0) (length row.0, row.1) (symbol_of rows text)
    (λ here. long.0) (λ others. symbol_has_byte rows text long.1)

symbols_long : AllLong symbols
symbols_long = (
  lit< tt,
  (
    lit< tt,
    (
      lit< tt,
      (
        lit< tt,
        (
          lit< tt,
          (
            lit< tt,
            (
              lit< tt,
              (
                lit< tt,
                (
                  lit< tt,
                  (
                    lit< tt,
                    (
                      lit< tt,
                      (
                        lit< tt,
                        (
                          lit< tt,
                          (
                            lit< tt,
                            (
                              lit< tt,
                              (
                                lit< tt,
                                (
                                  lit< tt,
                                  (
                                    lit< tt,
                                    (
                                      lit< tt,
                                      (
                                        lit< tt,
                                        (lit< tt, (lit< tt, (lit< tt, (lit< tt, (lit< tt, tt))))),
                                      ),
                                    ),
                                  ),
                                ),
                              ),
                            ),
                          ),
                        ),
                      ),
                    ),
                  ),
                ),
              ),
            ),
          ),
        ),
      ),
    ),
  ),
)

-- A token of a text that is not empty has a byte or more.
first_has_byte : (byte : ℕ) (text : List ℕ) → 0 < (first_token (byte ∷ text)).0
first_has_byte byte text =
    choose (λ (t : ℕ × Token). 0 < t.0) (is_alphanumeric byte) _ _ (λ is. word_has_byte byte text is)
    (λ no_word. choose (λ (t : ℕ × Token). 0 < t.0) (is_colon byte && has_two_colons (run_of (byte ∷ text))) _ _
    (λ is. colons_have_byte byte text (and_left (is_colon byte) _ is))
    (λ no_colons. choose (λ (t : ℕ × Token). 0 < t.0) (byte == 92) _ _ (λ is. escaped_has_byte (run_of text))
    (λ no_mark. symbol_has_byte symbols (byte ∷ text) symbols_long)))

when : {A : Type 0} (b : Bool) (x y : A) → b ≡ true → cond b x y ≡ x
when true x y is = refl
when false x y is = let never : ⊥ = cc in absurd never

unless : {A : Type 0} (b : Bool) (x y : A) → b ≡ false → cond b x y ≡ y
unless true x y is = let never : ⊥ = cc in absurd never
unless false x y is = refl

no_colons : (b c : Bool) → b ≡ false → (b && c) ≡ false
no_colons true c is = let never : ⊥ = cc in absurd never
no_colons false c is = refl

-- The length of a token that is read.
pub length_is : (kind : TokenKind) (len : ℕ) (text : List ℕ) → 0 < length text
    → shown_first kind len text ≡ first_token text → 0 < len
length_is kind len [] some is = absurd (omega (arith, some))
length_is kind len (byte ∷ text) some is =
    omega (arith, ap (λ (t : ℕ × Token). t.0) is, first_has_byte byte text)

-- The bytes that a start of a text has are a start of it.
start_is : (n : ℕ) (list : List ℕ) → take (length (take n list)) list ≡ take n list
start_is n list = ap (λ (k : ℕ). take k list) (length-take n list) ∙ take_min n list

start_within : (m n : ℕ) (list : List ℕ)
    → take (length (take m (take n list))) list ≡ take m (take n list)
start_within m n list =
    let short : length (take m (take n list)) ≤ n =
    omega (arith, length-take m (take n list), length-take n list) in
    sym (take-take (length (take m (take n list))) n list short) ∙ start_is m (take n list)

word_is_start : (text : List ℕ) → take (length (word_of text)) text ≡ word_of text
word_is_start text =
    choose (λ (w : List ℕ). take (length w) text ≡ w) (has_two_colons (run_of text)) (run_of text)
    (before_first is_colon (run_of text)) (λ two. start_is (prefix_len is_run_byte text) text)
    (λ few. start_within (position_or_len is_colon (run_of text)) (prefix_len is_run_byte text) text)

-- The token of a text that begins with a letter or digit.
pub word_first : (kind : TokenKind) (len : ℕ) (text read : List ℕ) → 0 < length text
    → is_alphanumeric (get_or text 0 0) ≡ true → read ≡ word_of text → shown_token kind read ≡ word_token read
    → len ≡ length read → shown_first kind len text ≡ first_token text
word_first kind len [] read some is read_is shown long = absurd (omega (arith, some))
word_first kind len (byte ∷ text) read some is read_is shown long =
    let same : take len (byte ∷ text) ≡ read =
    ap (λ (n : ℕ). take n (byte ∷ text)) (long ∙ ap length read_is) ∙ word_is_start (byte ∷ text) ∙ sym read_is in
    let present : ◌≡◌ {A = ℕ × Token} (len, shown_token kind (take len (byte ∷ text)))
    (length (word_of (byte ∷ text)), word_token (word_of (byte ∷ text))) =
    λ i. ((long ∙ ap length read_is) i, (ap (shown_token kind) same ∙ shown ∙ ap word_token read_is) i) in
    present ∙ sym (when (is_alphanumeric byte) _ _ is)

-- The token of a text that begins with a colon.
colon_here : (kind : TokenKind) (len : ℕ) (text : List ℕ) (two : Bool) → has_two_colons (run_of (58 ∷ text)) ≡ two
    → (IsTrue (has_two_colons (run_of (58 ∷ text)))
    → shown_first kind len (58 ∷ text) ≡ (length (run_of (58 ∷ text)), word (run_of (58 ∷ text))))
    → (has_two_colons (run_of (58 ∷ text)) ≡ false → (kind ≡ TheKinds.Colon) × (len ≡ 1))
    → shown_first kind len (58 ∷ text) ≡ first_token (58 ∷ text)
colon_here kind len text true is more one = more is ∙ sym (when (has_two_colons (run_of (58 ∷ text))) _ _ is)
colon_here kind len text false is more one =
    let present = one is in
    ap₂ (λ k n. shown_first k n (58 ∷ text)) present.0 present.1
    ∙ sym (unless (has_two_colons (run_of (58 ∷ text))) _ _ is)

pub colon_first : (kind : TokenKind) (len : ℕ) (text : List ℕ) → 0 < length text → get_or text 0 0 ≡ 58
    → (IsTrue (has_two_colons (run_of text)) → shown_first kind len text ≡ (length (run_of text), word (run_of text)))
    → (has_two_colons (run_of text) ≡ false → (kind ≡ TheKinds.Colon) × (len ≡ 1))
    → shown_first kind len text ≡ first_token text
colon_first kind len [] some is = absurd (omega (arith, some))
colon_first kind len (byte ∷ text) some is =
    subst (λ (b : ℕ). (IsTrue (has_two_colons (run_of (b ∷ text)))
    → shown_first kind len (b ∷ text) ≡ (length (run_of (b ∷ text)), word (run_of (b ∷ text))))
    → (has_two_colons (run_of (b ∷ text)) ≡ false → (kind ≡ TheKinds.Colon) × (len ≡ 1))
    → shown_first kind len (b ∷ text) ≡ first_token (b ∷ text)) (sym is)
    (colon_here kind len text (has_two_colons (run_of (58 ∷ text))) refl)

-- The token of a text that begins with a backslash.
pub escaped_first : (kind : TokenKind) (len : ℕ) (text others : List ℕ) → 0 < length text → get_or text 0 0 ≡ 92
    → others ≡ drop 1 text → shown_first kind len (92 ∷ others) ≡ escaped_token (run_of others)
    → shown_first kind len text ≡ first_token text
escaped_first kind len [] others some is others_is shown = absurd (omega (arith, some))
escaped_first kind len (byte ∷ text) others some is others_is shown =
    subst (λ (t : List ℕ). shown_first kind len t ≡ first_token t) (λ i. sym is i ∷ others_is i) shown

-- A text that begins with no word, colon or backslash begins with a symbol or a wrong character.
pub symbol_first : (text : List ℕ) → 0 < length text → is_alphanumeric (get_or text 0 0) ≡ false
    → get_or text 0 0 ≢ 58 → get_or text 0 0 ≢ 92 → first_token text ≡ symbol_of symbols text
symbol_first [] some no_word no_colon no_mark = absurd (omega (arith, some))
symbol_first (byte ∷ text) some no_word no_colon no_mark =
    unless (is_alphanumeric byte) _ _ no_word
    ∙ unless (is_colon byte && has_two_colons (run_of (byte ∷ text))) _ _
    (no_colons (is_colon byte) _ (ne_eqb byte 58 no_colon))
    ∙ unless (byte == 92) _ _ (ne_eqb byte 92 no_mark)

-- ---- every text has tokens

abbrev AreBlank : List ℕ → Type 0
AreBlank text = All (λ byte. IsTrue (is_blank byte)) text

no_blanks : AreBlank []
no_blanks k d below = absurd (omega (arith, below))

more_blanks : (byte : ℕ) (text : List ℕ) → is_blank byte ≡ true → AreBlank text → AreBlank (byte ∷ text)
more_blanks byte text is others zero d below = is
more_blanks byte text is others (suc k) d below = others k d (omega (arith, below))

other_blanks : (byte : ℕ) (text : List ℕ) → AreBlank (byte ∷ text) → AreBlank text
other_blanks byte text all k d below = all (suc k) d (omega (arith, below))

blank_before : (byte : ℕ) (text : List ℕ) (b : Bool) → is_blank byte ≡ b
    → drop (prefix_len is_blank (byte ∷ text)) (byte ∷ text) ≡ []
    → (drop (prefix_len is_blank text) text ≡ [] → AreBlank text) → AreBlank (byte ∷ text)
blank_before byte text true is none others =
    let same : 1 + prefix_len is_blank text ≡ suc (prefix_len is_blank text) = omega arith in
    more_blanks byte text is (others
    (sym (ap (λ (b : Bool). drop (cond b (1 + prefix_len is_blank text) 0) (byte ∷ text)) is
    ∙ ap (λ (n : ℕ). drop n (byte ∷ text)) same) ∙ none))
blank_before byte text false is none others =
    let all : byte ∷ text ≡ [] =
    sym (ap (λ (b : Bool). drop (cond b (1 + prefix_len is_blank text) 0) (byte ∷ text)) is) ∙ none in
    let never : ⊥ = cc in absurd never

-- A text that has nothing after its blanks consists of them.
all_blank : (text : List ℕ) → drop (prefix_len is_blank text) text ≡ [] → AreBlank text
all_blank [] none = no_blanks
all_blank (byte ∷ text) none = blank_before byte text (is_blank byte) refl none (all_blank text)

-- ---- the end of a text

abbrev IsNoEnd : Token → Type 0
IsNoEnd (wrong kind.End) = ⊥
IsNoEnd token = Unit {0}

-- A fact about four values is true of the value that is chosen.
one_of : {A : Type 0} (P : A → Type 0) (a b c : Bool) (s t u v : A) → P s → P t → P u → P v
    → P (cond a s (cond b t (cond c u v)))
one_of P true b c s t u v first second third others = first
one_of P false true c s t u v first second third others = second
one_of P false false true s t u v first second third others = third
one_of P false false false s t u v first second third others = others

word_no_end : (text : List ℕ) (name : Option Keyword) → IsNoEnd (keyword_or_word text name)
word_no_end text (Some name) = tt
word_no_end text None =
    choose IsNoEnd (list_any (is_text text) not_taken_words) (wrong kind.NotTaken) (word text) (λ is. tt) (λ no. tt)

kept_no_end : (text : List ℕ) → IsNoEnd (word_token text)
kept_no_end text =
    one_of IsNoEnd (is_text text (codes "and")) (is_text text (codes "or")) (is_text text (codes "not")) Tokens.and
    Tokens.or Tokens.not (keyword_or_word text (lookup_name text keyword_names)) tt tt tt
    (word_no_end text (lookup_name text keyword_names))

escaped_no_end : (run : List ℕ) → IsNoEnd (escaped_token run).1
escaped_no_end [] = tt
escaped_no_end (byte ∷ run) = tt

abbrev AllNoEnd : List (List ℕ × Token) → Type 0
AllNoEnd [] = Unit {0}
AllNoEnd (row ∷ rows) = IsNoEnd row.1 × AllNoEnd rows

symbol_no_end : (rows : List (List ℕ × Token)) (text : List ℕ) → AllNoEnd rows → IsNoEnd (symbol_of rows text).1
symbol_no_end [] text none = tt
symbol_no_end (row ∷ rows) text none =
    choose (λ (t : ℕ × Token). IsNoEnd t.1) (starts_with nat_eq text row.0) (length row.0, row.1) (symbol_of rows text)
    (λ here. none.0) (λ others. symbol_no_end rows text none.1)

symbols_no_end : AllNoEnd symbols
symbols_no_end = (
  tt,
  (
    tt,
    (
      tt,
      (
        tt,
        (
          tt,
          (
            tt,
            (
              tt,
              (
                tt,
                (
                  tt,
                  (
                    tt,
                    (
                      tt,
                      (
                        tt,
                        (
                          tt,
                          (tt, (tt, (tt, (tt, (tt, (tt, (tt, (tt, (tt, (tt, (tt, (tt, (tt))))))))))))),
                        ),
                      ),
                    ),
                  ),
                ),
              ),
            ),
          ),
        ),
      ),
    ),
  ),
)

-- The token of a text that is not empty is not that of the end.
first_no_end : (byte : ℕ) (text : List ℕ) → IsNoEnd (first_token (byte ∷ text)).1
first_no_end byte text =
    one_of (λ (t : ℕ × Token). IsNoEnd t.1) (is_alphanumeric byte)
    (is_colon byte && has_two_colons (run_of (byte ∷ text))) (byte == 92)
    (length (word_of (byte ∷ text)), word_token (word_of (byte ∷ text)))
    (length (run_of (byte ∷ text)), word (run_of (byte ∷ text))) (escaped_token (run_of text))
    (symbol_of symbols (byte ∷ text)) (kept_no_end (word_of (byte ∷ text))) tt (escaped_no_end (run_of text))
    (symbol_no_end symbols (byte ∷ text) symbols_no_end)

at_end : (text : List ℕ) (len : ℕ) → (len, wrong kind.End) ≡ first_token text → text ≡ []
at_end [] len is = refl
at_end (byte ∷ text) len is =
    let same : (first_token (byte ∷ text)).1 ≡ wrong kind.End = ap (λ (t : ℕ × Token). t.1) (sym is) in
    absurd (subst IsNoEnd same (first_no_end byte text))

-- Where the next token is that of the end, the tokens that were read are those of the text.
pub all_read : (text : List ℕ) (prefix : List Placed) (at start len : ℕ) → IsStart text prefix at
    → start ≡ at + length (take_while is_blank (drop at text))
    → (len, wrong kind.End) ≡ first_token (drop start text) → IsTokens 0 text prefix
all_read text prefix at start len is place here =
    let count = length_of_run is_blank (drop at text) in
    let same : start - at ≡ prefix_len is_blank (drop at text) = omega (arith, place, count) in
    let none : drop (prefix_len is_blank (drop at text)) (drop at text) ≡ [] =
    ap (λ n. drop n (drop at text)) (sym same) ∙ drop_to at start text (omega (arith, place))
    ∙ at_end (drop start text) len here in
    subst (IsTokens 0 text) (append-nil prefix) (is.1 [] (all_blank (drop at text) none))

-- ---- every list of tokens

abbrev HasTokens : ℕ → List ℕ → Type 0
HasTokens at text = (tokens : List Placed) × IsTokens at text tokens

tokens_after : (most at : ℕ) (text rest : List ℕ) → length text ≤ suc most
    → drop (prefix_len is_blank text) text ≡ rest
    → ((at : ℕ) (text : List ℕ) → length text ≤ most → HasTokens at text) → HasTokens at text
tokens_after most at text [] small is later = ([], all_blank text is)
tokens_after most at text (byte ∷ rest) small is later =
    let found : ℕ × Token = first_token (byte ∷ rest) in
    let some : 0 < found.0 = first_has_byte byte rest in
    let start : ℕ = at + length (take_while is_blank text) in
    let blanks : start - at ≡ prefix_len is_blank text = omega (arith, length_of_run is_blank text) in
    let len : found.0 ≡ start + found.0 - start = omega arith in
    let here : first_token (drop (start - at) text) ≡ (start + found.0 - start, found.1) =
    ap (λ (n : ℕ). first_token (drop n text)) blanks ∙ ap first_token is ∙ ap (λ (n : ℕ). (n, found.1)) len in
    let fewer : length (drop (start + found.0 - at) text) ≤ most =
    omega (arith, length-drop (start + found.0 - at) text, small, some) in
    let (others, more) = later (start + found.0) (drop (start + found.0 - at) text) fewer in
    (record { token = found.1; start = start; end = start + found.0 } ∷ others, (refl, omega (arith, some), here, more))

tokens_within : (most at : ℕ) (text : List ℕ) → length text ≤ most → HasTokens at text
tokens_within zero at [] small = ([], no_blanks)
tokens_within zero at (byte ∷ text) small = absurd (omega (arith, small))
tokens_within (suc most) at text small =
    tokens_after most at text (drop (prefix_len is_blank text) text) small refl (tokens_within most)

-- Every text has tokens.
pub tokens_exist : (at : ℕ) (text : List ℕ) → (tokens : List Placed) × IsTokens at text tokens
tokens_exist at text = tokens_within (length text) at text (omega arith)

-- ---- one list of tokens

-- Nothing is left of blanks.
none_left : (text : List ℕ) → AreBlank text → drop (prefix_len is_blank text) text ≡ []
none_left [] all = refl
none_left (byte ∷ text) all =
    let same : 1 + prefix_len is_blank text ≡ suc (prefix_len is_blank text) = omega arith in
    ap (λ (b : Bool). drop (cond b (1 + prefix_len is_blank text) 0) (byte ∷ text)) (all 0 0 (omega arith))
    ∙ ap (λ (n : ℕ). drop n (byte ∷ text)) same ∙ none_left text (other_blanks byte text all)

-- Blanks have no token.
no_token : (at : ℕ) (text : List ℕ) (first : Placed) (others : List Placed)
    → AreBlank text → IsTokens at text (first ∷ others) → ⊥
no_token at text first others all (start, some, here, more) =
    let blanks : first.start - at ≡ prefix_len is_blank text = omega (arith, start, length_of_run is_blank text) in
    let empty : drop (first.start - at) text ≡ [] =
    ap (λ (n : ℕ). drop n text) blanks ∙ none_left text all in
    let len : 0 ≡ first.end - first.start = ap (λ (t : ℕ × Token). t.0) (sym (ap first_token empty) ∙ here) in
    omega (arith, len, some)

-- A text has one list of tokens.
pub one_list : (at : ℕ) (text : List ℕ) (tokens tokens' : List Placed) → IsTokens at text tokens
    → IsTokens at text tokens' → tokens ≡ tokens'
one_list at text [] [] is is' = refl
one_list at text [] (first ∷ others) is is' = absurd (no_token at text first others is is')
one_list at text (first ∷ others) [] is is' = absurd (no_token at text first others is' is)
one_list at text (first ∷ others) (first' ∷ others') (start, some, here, more) (start', some', here', more') =
    let starts : first.start ≡ first'.start = start ∙ sym start' in
    let found : ◌≡◌ {A = ℕ × Token} (first.end - first.start, first.token) (first'.end - first'.start, first'.token) =
    sym here ∙ ap (λ (n : ℕ). first_token (drop (n - at) text)) starts ∙ here' in
    let lens : first.end - first.start ≡ first'.end - first'.start = ap (λ (t : ℕ × Token). t.0) found in
    let ends : first.end ≡ first'.end = omega (arith, starts, lens, some, some') in
    let firsts : first ≡ first' = λ i. record { token = (found i).1; start = starts i; end = ends i } in
    let rest : others ≡ others' =
    one_list first.end (drop (first.end - at) text) others others' more
    (subst (λ (n : ℕ). IsTokens n (drop (n - at) text) others') (sym ends) more') in
    λ i. firsts i ∷ rest i
