-- The token that a `TokenKind` shows, as plain data.
use Rattle.std.specs.Prelude.{ℕ, List, take}
use Rattle.filter_tokens.specs.declared.filter_error.FilterErrorKind.TheVariants.{End}
use Rattle.filter_tokens.specs.declared.token.TokenKind.{TokenKind}
use Rattle.filter_tokens.specs.declared.token.TokenKind.TheVariants as kind
use Rattle.filter_tokens.specs.Tokens.{Token, keyword, word, and, or, not, relation, left_parenthesis, right_parenthesis, left_bracket, right_bracket, colon, slash, ampersand, bar, wrong}

-- The token of this kind with this text. The end of the text is no token of a text.
abbrev pub shown_token : TokenKind → List ℕ → Token
shown_token (kind.Keyword name) text = keyword name
shown_token kind.Word text = word text
shown_token kind.And text = and
shown_token kind.Or text = or
shown_token kind.Not text = not
shown_token (kind.Relation by) text = relation by
shown_token kind.Open text = left_parenthesis
shown_token kind.Close text = right_parenthesis
shown_token kind.LeftBracket text = left_bracket
shown_token kind.RightBracket text = right_bracket
shown_token kind.Colon text = colon
shown_token kind.Slash text = slash
shown_token kind.Ampersand text = ampersand
shown_token kind.Bar text = bar
shown_token (kind.Wrong error) text = wrong error
shown_token kind.End text = wrong End

-- The token of this kind and length at the start of a text, with its length.
abbrev pub shown_first : TokenKind → ℕ → List ℕ → ℕ × Token
shown_first token len text = (len, shown_token token (take len text))
