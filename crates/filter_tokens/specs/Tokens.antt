-- Tokens of filter expressions. A text is the list of its bytes.
use Rattle.std.specs.Prelude.{◌≡◌, ℕ, ◌+◌, ◌-◌, ◌<◌, ◌==◌, ◌&&◌, ◌||◌, nat_le, nat_lt, if◌then◌else◌, Bool, All, IsTrue}
use Rattle.std.specs.Prelude.{List, [], ◌∷◌, length, count_by, drop, take_while, codes, nat_eq, Option, Some, None}
use Rattle.std.specs.List.{before_first, list_any, starts_with}
use Rattle.filter_tokens.specs.declared.filter_error.FilterErrorKind.{FilterErrorKind}
use Rattle.filter_tokens.specs.declared.filter_error.FilterErrorKind.TheVariants as kind
use Rattle.filter_tokens.specs.declared.keyword.Keyword.{Keyword}
use Rattle.filter_tokens.specs.declared.primitive.Relation.{Relation}
use Rattle.filter_tokens.specs.declared.primitive.Relation.TheVariants.{Equal, NotEqual, Less, LessOrEqual, Greater, GreaterOrEqual}
use Rattle.filter_tokens.specs.Names.{is_text, keyword_names, lookup_name, not_taken_words}

-- A token: a keyword, another word with its text, an operator, a symbol, or a wrong one with its error.
pub data Token : Type 0 where
  keyword : Keyword → Token
  word : List ℕ → Token
  and : Token
  or : Token
  not : Token
  relation : Relation → Token
  left_parenthesis : Token
  right_parenthesis : Token
  left_bracket : Token
  right_bracket : Token
  colon : Token
  slash : Token
  ampersand : Token
  bar : Token
  wrong : FilterErrorKind → Token

-- ---- bytes

-- Space, tab, line feed and carriage return.
abbrev pub is_blank : ℕ → Bool
is_blank byte = byte == 32 || (byte == 9 || (byte == 10 || byte == 13))

abbrev pub is_digit : ℕ → Bool
is_digit byte = nat_le 48 byte && nat_le byte 57

-- A letter or digit of ASCII.
abbrev pub is_alphanumeric : ℕ → Bool
is_alphanumeric byte = is_digit byte || ((nat_le 65 byte && nat_le byte 90) || (nat_le 97 byte && nat_le byte 122))

abbrev pub is_colon : ℕ → Bool
is_colon byte = byte == 58

-- A byte of a run: a letter, a digit, `.`, `_`, `:` or `-`.
abbrev pub is_run_byte : ℕ → Bool
is_run_byte byte = is_alphanumeric byte || (byte == 46 || (byte == 95 || (is_colon byte || byte == 45)))

-- A byte of a character after its first one (RFC 3629, 3).
abbrev pub is_continuation : ℕ → Bool
is_continuation byte = nat_le 128 byte && nat_lt byte 192

-- ---- words

-- The run at the start of a text.
abbrev pub run_of : List ℕ → List ℕ
run_of text = take_while is_run_byte text

-- True if a run has two colons or more.
abbrev pub has_two_colons : List ℕ → Bool
has_two_colons run = nat_le 2 (count_by is_colon run)

-- The word at the start of a text: its run if that has two colons or more, else the run up to a colon.
abbrev pub word_of : List ℕ → List ℕ
word_of text = if has_two_colons (run_of text) then run_of text else before_first is_colon (run_of text)

-- The token that a word is: an operator, a keyword, a word that is not supported, or another one.
abbrev pub keyword_or_word : List ℕ → Option Keyword → Token
keyword_or_word text (Some name) = keyword name
keyword_or_word text None =
    if list_any (is_text text) not_taken_words
    then wrong kind.NotTaken else word text

abbrev pub word_token : List ℕ → Token
word_token text =
    if is_text text (codes "and") then and else if is_text text (codes "or") then or
    else if is_text text (codes "not") then not else keyword_or_word text (lookup_name text keyword_names)

-- ---- symbols

-- The symbols, longer ones first. The first symbol that a text begins with is its token.
abbrev pub symbols : List (List ℕ × Token)
symbols =
    (codes "&&", and) ∷ (codes "||", or) ∷ (codes "!=", relation NotEqual) ∷ (codes "!", not)
    ∷ (codes "==", relation Equal) ∷ (codes "=", relation Equal) ∷ (codes "<=", relation LessOrEqual)
    ∷ (codes "<<", wrong kind.Arithmetic) ∷ (codes "<", relation Less) ∷ (codes ">=", relation GreaterOrEqual)
    ∷ (codes ">>", wrong kind.Arithmetic) ∷ (codes ">", relation Greater) ∷ (codes "(", left_parenthesis)
    ∷ (codes ")", right_parenthesis) ∷ (codes "[", left_bracket) ∷ (codes "]", right_bracket) ∷ (codes ":", colon)
    ∷ (codes "/", slash) ∷ (codes "&", ampersand) ∷ (codes "|", bar) ∷ (codes "+", wrong kind.Arithmetic)
    ∷ (codes "*", wrong kind.Arithmetic) ∷ (codes "%", wrong kind.Arithmetic) ∷ (codes "^", wrong kind.Arithmetic)
    ∷ (codes "-", wrong kind.Arithmetic) ∷ []

-- The token at the start of a text that begins with no word, with its length in bytes: a symbol, or else a character.
abbrev pub symbol_of : List (List ℕ × Token) → List ℕ → ℕ × Token
symbol_of [] text = (1 + length (take_while is_continuation (drop 1 text)), wrong kind.Character)
symbol_of (row ∷ rows) text =
    if starts_with nat_eq text row.0 then (length row.0, row.1) else symbol_of rows text

-- A backslash with the run after it, as tcpdump writes names of protocols; alone it is a character.
abbrev pub escaped_token : List ℕ → ℕ × Token
escaped_token [] = (1, wrong kind.Character)
escaped_token (byte ∷ run) = (2 + length run, wrong kind.NotTaken)

-- The token at the start of a text without blanks before it, with its length in bytes.
abbrev pub first_token : List ℕ → ℕ × Token
first_token [] = (0, wrong kind.End)
first_token (byte ∷ text) =
    if is_alphanumeric byte then (length (word_of (byte ∷ text)), word_token (word_of (byte ∷ text)))
    else if is_colon byte && has_two_colons (run_of (byte ∷ text))
    then (length (run_of (byte ∷ text)), word (run_of (byte ∷ text)))
    else if byte == 92 then escaped_token (run_of text) else symbol_of symbols (byte ∷ text)

-- ---- texts

-- A token at its place: offsets of its first byte and of the byte after it.
pub record Placed : Type 0 where
  pub token : Token
  pub start : ℕ
  pub end : ℕ

-- A text that begins at offset `at` consists of these tokens, with blanks before and after them. Every text has one list
-- of tokens.
abbrev pub IsTokens : ℕ → List ℕ → List Placed → Type 0
IsTokens at text [] = All (λ byte. IsTrue (is_blank byte)) text
IsTokens at text (first ∷ others) =
    (first.start ≡ at + length (take_while is_blank text)) × (first.start < first.end)
    × (first_token (drop (first.start - at) text) ≡ (first.end - first.start, first.token))
    × IsTokens first.end (drop (first.end - at) text) others

-- The tokens without their places.
abbrev pub tokens_of : List Placed → List Token
tokens_of [] = []
tokens_of (first ∷ others) = first.token ∷ tokens_of others
