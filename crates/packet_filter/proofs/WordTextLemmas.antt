-- Lemmas about words: the bytes of a text that are read as one word.
use Rattle.std.proofs.Common.{◌≡◌, ℕ, suc, ◌+◌, ◌<◌, ◌≤◌, ◌^◌, Bool, true, false, cond, not, ◌&&◌, ◌||◌, ◌==◌, nat_le, List, [], ◌∷◌, ◌++◌, length, take, count_by, Some, None, codes, decimal, refl, ap, sym, subst, ◌∙◌, append_assoc, arith, le-leb, ne_eqb, eqb-true, inl, inr, ◌⊎◌}
use Rattle.std.specs.List.{before_first, list_any, prefix_len}
use Rattle.std.specs.Str.Parse.{AllDigits}
use Rattle.std.proofs.lemmas.Fmt.{decimal_is_IsNumeral}
use Rattle.std.proofs.lemmas.Bool.{lt-leb}
use Rattle.std.proofs.lemmas.List.{append-nil, take_at}
use Rattle.std.proofs.lemmas.List.Sums.{sum_by-append}
use Rattle.std.proofs.lemmas.Slice.Eq.{bytes_eq-Decides}
use Rattle.std.proofs.lemmas.Str.Parse.{digit_from_value}
use Rattle.filter_tokens.specs.Names.{is_text, keyword_names, lookup_name, not_taken_words}
use Rattle.filter_tokens.specs.declared.filter_error.FilterErrorKind.TheVariants as kind
use Rattle.filter_tokens.specs.Tokens
use Rattle.filter_tokens.specs.Tokens.{Token, word, and, or, wrong, escaped_token, symbol_of, symbols, has_two_colons, is_alphanumeric, is_blank, is_colon, is_digit, is_run_byte, keyword_or_word, run_of, word_of, word_token}
use Rattle.packet_filter.proofs.LexingLemmas
use Rattle.packet_filter.proofs.LexingLemmas.{IsLexed}

-- ---- tests of bytes

never_both : (b : Bool) → b ≡ true → b ≡ false → ⊥
never_both b holds fails = let clash : true ≡ false = sym holds ∙ fails in cc

is_false : (b : Bool) → (b ≡ true → ⊥) → b ≡ false
is_false true none = absurd (none refl)
is_false false none = refl

not_true : (b : Bool) → not b ≡ true → b ≡ false
not_true true is = let never : ⊥ = cc in absurd never
not_true false is = refl

or_left : (a b : Bool) → a ≡ true → (a || b) ≡ true
or_left true b is = refl
or_left false b is = let never : ⊥ = cc in absurd never

or_right : (a b : Bool) → b ≡ true → (a || b) ≡ true
or_right true b is = refl
or_right false b is = is

both_true : (a b : Bool) → a ≡ true → b ≡ true → (a && b) ≡ true
both_true true b is is' = is'
both_true false b is is' = let never : ⊥ = cc in absurd never

pub left_true : (a b : Bool) → (a && b) ≡ true → a ≡ true
left_true true b is = refl
left_true false b is = let never : ⊥ = cc in absurd never

pub right_true : (a b : Bool) → (a && b) ≡ true → b ≡ true
right_true true b is = is
right_true false b is = let never : ⊥ = cc in absurd never

neither : (a b : Bool) → a ≡ false → b ≡ false → (a || b) ≡ false
neither true b is is' = let never : ⊥ = cc in absurd never
neither false b is is' = is'

pub if_true : {A : Type 0} (b : Bool) (x y : A) → b ≡ true → cond b x y ≡ x
if_true true x y is = refl
if_true false x y is = let never : ⊥ = cc in absurd never

pub if_false : {A : Type 0} (b : Bool) (x y : A) → b ≡ false → cond b x y ≡ y
if_false true x y is = let never : ⊥ = cc in absurd never
if_false false x y is = refl

either_true : (byte : ℕ) (a : Bool) → (a || is_colon byte) ≡ true → (a ≡ true) ⊎ (byte ≡ 58)
either_true byte true is = inl refl
either_true byte false is = inr (eqb-true byte 58 is)

same_branches : {A : Type 0} (b : Bool) (x y : A) → y ≡ x → cond b x y ≡ x
same_branches true x y is = refl
same_branches false x y is = is

-- A byte of a word that is no colon.
abbrev pub is_plain_byte : ℕ → Bool
is_plain_byte byte = is_run_byte byte && not (is_colon byte)

-- A word can begin with the byte.
abbrev pub is_word_start : ℕ → Bool
is_word_start byte = is_alphanumeric byte || is_colon byte

-- A byte from `0` to `9`.
pub digit_test : (byte : ℕ) → 48 ≤ byte → byte ≤ 57 → is_digit byte ≡ true
digit_test byte low high = both_true _ _ (le-leb 48 byte low) (le-leb byte 57 high)

pub alphanumeric_of_digit : (byte : ℕ) → is_digit byte ≡ true → is_alphanumeric byte ≡ true
alphanumeric_of_digit byte is = or_left _ _ is

pub alphanumeric_of_capital : (byte : ℕ) → 65 ≤ byte → byte ≤ 90 → is_alphanumeric byte ≡ true
alphanumeric_of_capital byte low high =
    or_right (is_digit byte) _ (or_left _ _ (both_true _ _ (le-leb 65 byte low) (le-leb byte 90 high)))

pub alphanumeric_of_small : (byte : ℕ) → 97 ≤ byte → byte ≤ 122 → is_alphanumeric byte ≡ true
alphanumeric_of_small byte low high =
    or_right (is_digit byte) _ (or_right (nat_le 65 byte && nat_le byte 90) _
    (both_true _ _ (le-leb 97 byte low) (le-leb byte 122 high)))

-- A letter or digit can begin a word.
pub start_of_alphanumeric : (byte : ℕ) → is_alphanumeric byte ≡ true → is_word_start byte ≡ true
start_of_alphanumeric byte is = or_left _ _ is

run_byte_of_alphanumeric : (byte : ℕ) → is_alphanumeric byte ≡ true → is_run_byte byte ≡ true
run_byte_of_alphanumeric byte is = or_left _ _ is

-- An alphanumeric byte is none that no alphanumeric byte is.
apart : (byte c : ℕ) → is_alphanumeric byte ≡ true → is_alphanumeric c ≡ false → (byte == c) ≡ false
apart byte c is none = ne_eqb byte c (λ same. never_both (is_alphanumeric c) (sym (ap is_alphanumeric same) ∙ is) none)

pub plain_of_alphanumeric : (byte : ℕ) → is_alphanumeric byte ≡ true → is_plain_byte byte ≡ true
plain_of_alphanumeric byte is =
    both_true _ _ (run_byte_of_alphanumeric byte is) (ap not (apart byte 58 is refl))

not_blank_of_alphanumeric : (byte : ℕ) → is_alphanumeric byte ≡ true → is_blank byte ≡ false
not_blank_of_alphanumeric byte is =
    neither _ _ (apart byte 32 is refl) (neither _ _ (apart byte 9 is refl)
    (neither _ _ (apart byte 10 is refl) (apart byte 13 is refl)))

-- ---- tests of all bytes

-- Each byte passes a test.
abbrev pub Each : (ℕ → Bool) → List ℕ → Type 0
Each p [] = Unit {0}
Each p (x ∷ xs) = (p x ≡ true) × Each p xs

pub each_append : (p : ℕ → Bool) (xs ys : List ℕ) → Each p xs → Each p ys → Each p (xs ++ ys)
each_append p [] ys each more = more
each_append p (x ∷ xs) ys each more = (each.0, each_append p xs ys each.1 more)

pub each_weaker : (p r : ℕ → Bool) → ((x : ℕ) → p x ≡ true → r x ≡ true) → (xs : List ℕ) → Each p xs → Each r xs
each_weaker p r weaker [] each = tt
each_weaker p r weaker (x ∷ xs) each = (weaker x each.0, each_weaker p r weaker xs each.1)

-- No byte at the start of the text passes a test.
abbrev pub stops_at : (ℕ → Bool) → List ℕ → Bool
stops_at p [] = true
stops_at p (byte ∷ text) = not (p byte)

-- The text does not go on with a byte of a word.
abbrev pub stops : List ℕ → Bool
stops text = stops_at is_run_byte text

prefix_at : (p : ℕ → Bool) (w rest : List ℕ) → Each p w → stops_at p rest ≡ true → prefix_len p (w ++ rest) ≡ length w
prefix_at p [] [] each stop = refl
prefix_at p [] (byte ∷ rest) each stop = if_false (p byte) (1 + prefix_len p rest) 0 (not_true (p byte) stop)
prefix_at p (x ∷ w) rest each stop =
    let size : prefix_len p (w ++ rest) ≡ length w = prefix_at p w rest each.1 stop in
    if_true (p x) (1 + prefix_len p (w ++ rest)) 0 each.0 ∙ omega (arith, size)

pub start_is : (p : ℕ → Bool) (w rest : List ℕ) → Each p w → stops_at p rest ≡ true
    → take (prefix_len p (w ++ rest)) (w ++ rest) ≡ w
start_is p w rest each stop = take_at w rest (prefix_len p (w ++ rest)) (sym (prefix_at p w rest each stop))

-- ---- the word at the start of a text

-- The number of colons of a text.
abbrev pub colons : List ℕ → ℕ
colons text = count_by is_colon text

pub colons_append : (prefix back : List ℕ) → colons (prefix ++ back) ≡ colons prefix + colons back
colons_append prefix back = sum_by-append (λ (byte : ℕ). cond (is_colon byte) 1 0) prefix back

pub plain_is_run : (byte : ℕ) → is_plain_byte byte ≡ true → is_run_byte byte ≡ true
plain_is_run byte is = left_true (is_run_byte byte) (not (is_colon byte)) is

plain_is_no_colon : (byte : ℕ) → is_plain_byte byte ≡ true → not (is_colon byte) ≡ true
plain_is_no_colon byte is = right_true (is_run_byte byte) (not (is_colon byte)) is

pub plain_run : (text : List ℕ) → Each is_plain_byte text → Each is_run_byte text
plain_run text each = each_weaker is_plain_byte is_run_byte plain_is_run text each

no_colons : (w : List ℕ) → Each is_plain_byte w → colons w ≡ 0
no_colons [] each = refl
no_colons (byte ∷ w) each =
    let here : colons (byte ∷ []) ≡ 0 =
    ap (λ (b : Bool). 0 + cond b 1 0) (not_true (is_colon byte) (plain_is_no_colon byte each.0)) in
    omega (arith, here, colons_append (byte ∷ []) w, no_colons w each.1)

-- The word of a run.
abbrev pub word_in : List ℕ → List ℕ
word_in run = cond (has_two_colons run) run (before_first is_colon run)

before_colon : (w rest : List ℕ) → Each is_plain_byte w → stops_at (λ byte. not (is_colon byte)) rest ≡ true
    → before_first is_colon (w ++ rest) ≡ w
before_colon w rest each stop =
    start_is (λ byte. not (is_colon byte)) w rest
    (each_weaker is_plain_byte (λ byte. not (is_colon byte)) plain_is_no_colon w each) stop

plain_word_in : (w : List ℕ) → Each is_plain_byte w → word_in w ≡ w
plain_word_in w each =
    let all : before_first is_colon w ≡ w =
    ap (before_first is_colon) (sym (append-nil w)) ∙ before_colon w [] each refl in
    same_branches (has_two_colons w) w (before_first is_colon w) all

run_is : (w rest : List ℕ) → Each is_run_byte w → stops rest ≡ true → run_of (w ++ rest) ≡ w
run_is w rest each stop = start_is is_run_byte w rest each stop

plain_word_of : (w rest : List ℕ) → Each is_plain_byte w → stops rest ≡ true → word_of (w ++ rest) ≡ w
plain_word_of w rest each stop =
    ap word_in (run_is w rest (plain_run w each) stop) ∙ plain_word_in w each

-- The word before a colon and one more byte.
word_before_colon : (w : List ℕ) (byte : ℕ) (rest : List ℕ) → Each is_plain_byte w → is_plain_byte byte ≡ true
    → stops rest ≡ true → word_of (w ++ 58 ∷ byte ∷ rest) ≡ w
word_before_colon w byte rest each is stop =
    let run : List ℕ = w ++ 58 ∷ byte ∷ [] in
    let assoc : w ++ 58 ∷ byte ∷ rest ≡ run ++ rest = sym (append_assoc w (58 ∷ byte ∷ []) rest) in
    let all : Each is_run_byte run =
    each_append is_run_byte w (58 ∷ byte ∷ []) (plain_run w each)
    (refl, (plain_is_run byte is, tt)) in
    let one : colons (58 ∷ byte ∷ []) ≡ 1 =
    omega (arith, colons_append (58 ∷ []) (byte ∷ []), no_colons (byte ∷ []) (is, tt)) in
    let few : colons run < 2 = omega (arith, one, colons_append w (58 ∷ byte ∷ []), no_colons w each) in
    ap word_of assoc ∙ ap word_in (run_is run rest all stop)
    ∙ if_false (has_two_colons run) run (before_first is_colon run) (lt-leb 2 (colons run) few)
    ∙ before_colon w (58 ∷ byte ∷ []) each refl

colon_word_of : (w rest : List ℕ) → Each is_run_byte w → 2 ≤ colons w → stops rest ≡ true → word_of (w ++ rest) ≡ w
colon_word_of w rest each many stop =
    ap word_in (run_is w rest each stop)
    ∙ if_true (has_two_colons w) w (before_first is_colon w) (le-leb 2 (colons w) many)

-- ---- words that are no names

-- No name passes a test.
abbrev pub none_named : {V : Type 0} → (List ℕ → Bool) → List (List ℕ × V) → Bool
none_named test [] = true
none_named test (row ∷ rows) = not (test row.0) && none_named test rows

abbrev pub none_listed : (List ℕ → Bool) → List (List ℕ) → Bool
none_listed test [] = true
none_listed test (name ∷ names) = not (test name) && none_listed test names

other_text : (test : List ℕ → Bool) (w name : List ℕ) → test w ≡ true → test name ≡ false → is_text w name ≡ false
other_text test w name holds fails =
    is_false (is_text w name)
    (λ same. never_both (test name) (sym (ap test ((bytes_eq-Decides w name).0 same)) ∙ holds) fails)

-- A text that passes a test is no name, if no name passes it.
pub no_name : {V : Type 0} (test : List ℕ → Bool) (w : List ℕ) (rows : List (List ℕ × V)) → test w ≡ true
    → none_named test rows ≡ true → lookup_name w rows ≡ None
no_name test w [] holds none = refl
no_name test w (row ∷ rows) holds none =
    if_false (is_text w row.0) (Some row.1) (lookup_name w rows)
    (other_text test w row.0 holds (not_true (test row.0) (left_true (not (test row.0)) (none_named test rows) none)))
    ∙ no_name test w rows holds (right_true (not (test row.0)) (none_named test rows) none)

not_listed : (test : List ℕ → Bool) (w : List ℕ) (names : List (List ℕ)) → test w ≡ true
    → none_listed test names ≡ true → list_any (is_text w) names ≡ false
not_listed test w [] holds none = refl
not_listed test w (name ∷ names) holds none =
    neither (is_text w name) (list_any (is_text w) names)
    (other_text test w name holds (not_true (test name) (left_true (not (test name)) (none_listed test names) none)))
    (not_listed test w names holds (right_true (not (test name)) (none_listed test names) none))

no_keyword : (test : List ℕ → Bool) (w : List ℕ) → test w ≡ true → test (codes "and") ≡ false
    → test (codes "or") ≡ false → test (codes "not") ≡ false → none_named test keyword_names ≡ true
    → none_listed test not_taken_words ≡ true → word_token w ≡ word w
no_keyword test w holds no_and no_or no_not none none_taken =
    let named : Token = keyword_or_word w (lookup_name w keyword_names) in
    if_false (is_text w (codes "and")) and
    (cond (is_text w (codes "or")) or (cond (is_text w (codes "not")) Tokens.not named))
    (other_text test w (codes "and") holds no_and)
    ∙ if_false (is_text w (codes "or")) or (cond (is_text w (codes "not")) Tokens.not named)
    (other_text test w (codes "or") holds no_or)
    ∙ if_false (is_text w (codes "not")) Tokens.not named (other_text test w (codes "not") holds no_not)
    ∙ ap (keyword_or_word w) (no_name test w keyword_names holds none)
    ∙ if_false (list_any (is_text w) not_taken_words) (wrong kind.NotTaken) (word w)
    (not_listed test w not_taken_words holds none_taken)

-- A text begins with a digit.
abbrev pub begins_with_digit : List ℕ → Bool
begins_with_digit [] = false
begins_with_digit (byte ∷ text) = is_digit byte

-- A text begins with a letter, a digit or a colon.
abbrev pub begins_word : List ℕ → Bool
begins_word [] = false
begins_word (byte ∷ text) = is_word_start byte

number_token : (w : List ℕ) → begins_with_digit w ≡ true → word_token w ≡ word w
number_token w digit = no_keyword begins_with_digit w digit refl refl refl refl refl

colon_token : (w : List ℕ) → 2 ≤ colons w → word_token w ≡ word w
colon_token w many = no_keyword has_two_colons w (le-leb 2 (colons w) many) refl refl refl refl refl

-- ---- words that are read

-- A text that is read as one word: it begins with a digit and has no colon, or has two colons or more.
pub data IsWord : List ℕ → Type 0 where
  plain : (w : List ℕ) → begins_with_digit w ≡ true → Each is_plain_byte w → IsWord w
  with_colons : (w : List ℕ) → begins_word w ≡ true → Each is_run_byte w → 2 ≤ colons w → IsWord w

-- A word that begins with a letter or digit is read.
pub lexed_start : (first : ℕ) (others rest : List ℕ) (token : Token) (tokens : List Token)
    → is_alphanumeric first ≡ true → word_of (first ∷ (others ++ rest)) ≡ first ∷ others
    → word_token (first ∷ others) ≡ token → IsLexed rest tokens
    → IsLexed (first ∷ (others ++ rest)) (token ∷ tokens)
lexed_start first others rest token tokens alphanumeric complete named lexed =
    let text : List ℕ = first ∷ (others ++ rest) in
    LexingLemmas.piece first others rest token tokens (not_blank_of_alphanumeric first alphanumeric)
    (if_true (is_alphanumeric first) (length (word_of text), word_token (word_of text))
    (cond (is_colon first && has_two_colons (run_of text)) (length (run_of text), word (run_of text))
    (cond (first == 92) (escaped_token (run_of (others ++ rest))) (symbol_of symbols text))) alphanumeric
    ∙ ap (λ (w : List ℕ). (length w, word_token w)) complete
    ∙ ap (λ (t : Token). (suc (length others), t)) named)
    lexed

-- A word of colons that begins with one is read.
colon_start : (others rest : List ℕ) (tokens : List Token) → Each is_run_byte (58 ∷ others) → 2 ≤ colons (58 ∷ others)
    → stops rest ≡ true → IsLexed rest tokens → IsLexed (58 ∷ (others ++ rest)) (word (58 ∷ others) ∷ tokens)
colon_start others rest tokens each many stop lexed =
    let text : List ℕ = 58 ∷ (others ++ rest) in
    let run : run_of text ≡ 58 ∷ others = run_is (58 ∷ others) rest each stop in
    let two : has_two_colons (run_of text) ≡ true = ap has_two_colons run ∙ le-leb 2 (colons (58 ∷ others)) many in
    LexingLemmas.piece 58 others rest (word (58 ∷ others)) tokens refl
    (if_true (has_two_colons (run_of text)) (length (run_of text), word (run_of text)) (symbol_of symbols text) two
    ∙ ap (λ (w : List ℕ). (length w, word w)) run)
    lexed

colon_or_alphanumeric : (byte : ℕ) → is_word_start byte ≡ true → (is_alphanumeric byte ≡ true) ⊎ (byte ≡ 58)
colon_or_alphanumeric byte is =
    either_true byte (is_alphanumeric byte) is

lexed_colons : (first : ℕ) (others rest : List ℕ) (tokens : List Token)
    → ((is_alphanumeric first ≡ true) ⊎ (first ≡ 58)) → Each is_run_byte (first ∷ others) → 2 ≤ colons (first ∷ others)
    → stops rest ≡ true → IsLexed rest tokens → IsLexed (first ∷ (others ++ rest)) (word (first ∷ others) ∷ tokens)
lexed_colons first others rest tokens (inl alphanumeric) each many stop lexed =
    lexed_start first others rest (word (first ∷ others)) tokens alphanumeric
    (colon_word_of (first ∷ others) rest each many stop) (colon_token (first ∷ others) many) lexed
lexed_colons first others rest tokens (inr same) each many stop lexed =
    subst (λ (byte : ℕ). IsLexed (byte ∷ (others ++ rest)) (word (byte ∷ others) ∷ tokens)) (sym same)
    (colon_start others rest tokens (subst (λ (byte : ℕ). Each is_run_byte (byte ∷ others)) same each)
    (subst (λ (byte : ℕ). 2 ≤ colons (byte ∷ others)) same many) stop lexed)

-- A word is read, if no more bytes of words come after it.
pub lexed_word : (w rest : List ℕ) (tokens : List Token) → IsWord w → stops rest ≡ true → IsLexed rest tokens
    → IsLexed (w ++ rest) (word w ∷ tokens)
lexed_word w rest tokens (plain [] digit each) stop lexed = let never : ⊥ = cc in absurd never
lexed_word w rest tokens (plain (first ∷ others) digit each) stop lexed =
    lexed_start first others rest (word (first ∷ others)) tokens (alphanumeric_of_digit first digit)
    (plain_word_of (first ∷ others) rest each stop) (number_token (first ∷ others) digit) lexed
lexed_word w rest tokens (with_colons [] start each many) stop lexed = let never : ⊥ = cc in absurd never
lexed_word w rest tokens (with_colons (first ∷ others) start each many) stop lexed =
    lexed_colons first others rest tokens (colon_or_alphanumeric first start) each many stop lexed

-- A number is read, if a colon and one more byte come after it.
pub lexed_before_colon : (w : List ℕ) (byte : ℕ) (rest : List ℕ) (tokens : List Token)
    → begins_with_digit w ≡ true → Each is_plain_byte w → is_plain_byte byte ≡ true → stops rest ≡ true
    → IsLexed (58 ∷ byte ∷ rest) tokens → IsLexed (w ++ 58 ∷ byte ∷ rest) (word w ∷ tokens)
lexed_before_colon [] byte rest tokens digit each is stop lexed = let never : ⊥ = cc in absurd never
lexed_before_colon (first ∷ others) byte rest tokens digit each is stop lexed =
    lexed_start first others (58 ∷ byte ∷ rest) (word (first ∷ others)) tokens (alphanumeric_of_digit first digit)
    (word_before_colon (first ∷ others) byte rest each is stop) (number_token (first ∷ others) digit) lexed

-- ---- numbers

digit_is_plain : (byte : ℕ) → is_digit byte ≡ true → is_plain_byte byte ≡ true
digit_is_plain byte is = plain_of_alphanumeric byte (alphanumeric_of_digit byte is)

digits_each : (digits : List ℕ) → AllDigits 10 digits → Each is_digit digits
digits_each [] all = tt
digits_each (c ∷ digits) all =
    let (low, high) = digit_from_value c all.0 in (digit_test c low high, digits_each digits all.1)

digit_first : (digits : List ℕ) → 0 < length digits → Each is_digit digits → begins_with_digit digits ≡ true
digit_first [] some each = absurd (omega (arith, some))
digit_first (c ∷ digits) some each = each.0

-- The text of a number consists of digits.
pub decimal_each : (number : ℕ) → number < 2 ^ 64 → Each is_plain_byte (decimal number)
decimal_each number small =
    each_weaker is_digit is_plain_byte digit_is_plain (decimal number)
    (digits_each (decimal number) (decimal_is_IsNumeral number small).0.1)

pub decimal_begins : (number : ℕ) → number < 2 ^ 64 → begins_with_digit (decimal number) ≡ true
decimal_begins number small =
    let numeral = (decimal_is_IsNumeral number small).0 in
    digit_first (decimal number) numeral.0 (digits_each (decimal number) numeral.1)

pub decimal_word : (number : ℕ) → number < 2 ^ 64 → IsWord (decimal number)
decimal_word number small = plain (decimal number) (decimal_begins number small) (decimal_each number small)

pub begins_longer : (w more : List ℕ) → begins_with_digit w ≡ true → begins_with_digit (w ++ more) ≡ true
begins_longer [] more digit = let never : ⊥ = cc in absurd never
begins_longer (byte ∷ w) more digit = digit

-- The text of a range of ports is a word.
pub range_word : (low high : ℕ) → low < 2 ^ 64 → high < 2 ^ 64 → IsWord (decimal low ++ codes "-" ++ decimal high)
range_word low high small small' =
    subst IsWord (sym (append_assoc (decimal low) (45 ∷ []) (decimal high)))
    (plain (decimal low ++ 45 ∷ decimal high)
    (begins_longer (decimal low) (45 ∷ decimal high) (decimal_begins low small))
    (each_append is_plain_byte (decimal low) (45 ∷ decimal high) (decimal_each low small)
    (refl, decimal_each high small')))
