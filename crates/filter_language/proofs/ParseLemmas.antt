-- The parser has read the tokens of a text up to an offset: what follows from its next token.
use Rattle.std.proofs.Common.{◌≡◌, ◌≢◌, ℕ, ◌+◌, ◌-◌, ◌<◌, ◌≤◌, ◌⊎◌, inl, inr, List, [], ◌∷◌, ◌++◌, append_assoc, length, take, take_while, drop, Option, Some, None, refl, ap, sym, ◌∙◌, subst, arith}
use Rattle.filter_tokens.specs.declared.filter_error.FilterError.{FilterError}
use Rattle.filter_tokens.specs.declared.filter_error.FilterErrorKind.{FilterErrorKind}
use Rattle.filter_tokens.specs.declared.filter_error.FilterErrorKind.TheVariants as kind
use Rattle.filter_tokens.specs.declared.token.Token.{Token}
use Rattle.filter_tokens.specs.declared.token.TokenKind.{TokenKind}
use Rattle.filter_tokens.specs.declared.token.TokenKind.TheVariants as token_kind
use Rattle.filter_tokens.specs.ShownTokens.{shown_first, shown_token}
use Rattle.filter_tokens.specs.Tokens.{IsTokens, Placed, first_token, is_blank, tokens_of}
use Rattle.filter_tokens.specs.Tokens as Tokens
use Rattle.filter_tokens.proofs.TokenListLemmas.{IsStart, all_read, prefix_more, no_prefix, tokens_exist}
use Rattle.filter_language.specs.declared.parser.Parser.{Parser}
use Rattle.filter_language.specs.declared.step.Step.{Step}
use Rattle.filter_language.specs.Grammar as Grammar
use Rattle.filter_language.specs.Grammar.{IsFilter, most_bytes, most_levels}
use Rattle.filter_language.specs.Parsing.{IsShown, state_of}
use Rattle.filter_language.specs.Refusals.{IsAllowed, IsFilterText, RefusesText}
use Rattle.filter_language.specs.States.{Frame, Reads, Runs, State, Stops, expression_of, first_state, more_tokens, no_tokens, settled}
use Rattle.filter_language.specs.Trees.{Expr, steps_of, steps_of_text}
use Rattle.filter_language.proofs.KindLemmas.{stops_kind}
use Rattle.filter_language.proofs.RunLemmas.{allowed_reads, filter_runs}
use Rattle.filter_language.proofs.RunOnceLemmas.{runs_joined, runs_once, stops_apart}
use Rattle.filter_language.proofs.StandLemmas.{runs_begin, runs_filter}

-- ---- the next token

-- This is the first token at or after an offset.
abbrev pub IsNext : List ℕ → ℕ → Token → Type 0
IsNext text at read =
    (read.start ≡ at + length (take_while is_blank (drop at text))) × (read.end ≤ length text)
    × (read.kind ≢ token_kind.End → read.start < read.end)
    × (shown_first read.kind (read.end - read.start) (drop read.start text) ≡ first_token (drop read.start text))

-- The token that it shows, at its place.
abbrev pub placed : List ℕ → Token → Placed
placed text read = record {
  token = shown_token read.kind (take (read.end - read.start) (drop read.start text));
  start = read.start;
  end = read.end;
}

prefix_next : (text : List ℕ) (prefix : List Placed) (at : ℕ) (read : Token) → IsStart text prefix at
    → IsNext text at read → read.kind ≢ token_kind.End → IsStart text (prefix ++ placed text read ∷ []) read.end
prefix_next text prefix at read is present some =
    prefix_more text prefix at (placed text read) is present.0 (present.2 some) present.1 (sym present.3)

all_tokens : (text : List ℕ) (prefix : List Placed) (at : ℕ) (read : Token) → IsStart text prefix at
    → IsNext text at read → read.kind ≡ token_kind.End → IsTokens 0 text prefix
all_tokens text prefix at read is present end_is =
    all_read text prefix at read.start (read.end - read.start) is present.0
    (ap (λ (k : TokenKind). shown_first k (read.end - read.start) (drop read.start text)) (sym end_is) ∙ present.3)

-- ---- what was read

-- The parser has read the tokens of the text up to this offset.
abbrev pub HasRead : List ℕ → ℕ → Parser → Type 0
HasRead text at parser =
    (tokens : List Placed) × (frames : List Frame) × IsStart text tokens at
    × Runs most_levels first_state (tokens_of tokens) (state_of parser frames) × IsShown parser frames
    × (at ≡ 0 → tokens ≡ []) × (tokens ≡ [] → at ≡ 0)

pub none_read : (text : List ℕ) (parser : Parser) → IsShown parser [] → state_of parser [] ≡ first_state
    → HasRead text 0 parser
none_read text parser shown is = (
  [],
  [],
  no_prefix text,
  subst (λ (state : State). Runs most_levels first_state [] state) (sym is) (no_tokens first_state),
  shown,
  λ start. refl,
  λ none. refl,
)

tokens_joined : (prefix others : List Placed) → tokens_of (prefix ++ others) ≡ tokens_of prefix ++ tokens_of others
tokens_joined [] others = refl
tokens_joined (first ∷ prefix) others = ap (λ list. first.token ∷ list) (tokens_joined prefix others)

runs_next : (prefix : List Placed) (first : Placed) (state after : State)
    → Runs most_levels first_state (tokens_of prefix) state → Reads most_levels state first.token after
    → Runs most_levels first_state (tokens_of (prefix ++ first ∷ [])) after
runs_next prefix first state after runs reads =
    subst (λ list. Runs most_levels first_state list after) (sym (tokens_joined prefix (first ∷ [])))
    (runs_joined most_levels first_state state after (tokens_of prefix) (first.token ∷ []) runs
    (more_tokens state after after first.token [] reads (no_tokens after)))

not_empty : (prefix : List Placed) (first : Placed) → prefix ++ first ∷ [] ≡ [] → ⊥
not_empty [] first is = let never : ⊥ = cc in never
not_empty (before ∷ prefix) first is = let never : ⊥ = cc in never

-- The parser reads the next token.
pub read_more : (text : List ℕ) (at : ℕ) (parser after : Parser) (read : Token) → HasRead text at parser
    → IsNext text at read → read.kind ≢ token_kind.End
    → ((frames : List Frame) → IsShown parser frames → (others : List Frame) × IsShown after others
    × Reads most_levels (state_of parser frames) (placed text read).token (state_of after others))
    → HasRead text read.end after
read_more text at parser after read (tokens, frames, prefix, runs, shown, start, none) present some reads =
    let (others, shown_after, reads_it) = reads frames shown in (
      tokens ++ placed text read ∷ [],
      others,
      prefix_next text tokens at read prefix present some,
      runs_next tokens (placed text read) (state_of parser frames) (state_of after others) runs reads_it,
      shown_after,
      λ zero_is. absurd (omega (arith, zero_is, present.2 some)),
      λ none_is. absurd (not_empty tokens (placed text read) none_is),
    )

-- ---- the end of the text

-- A text without tokens is the empty filter.
pub empty_filter : (text : List ℕ) (at : ℕ) (parser : Parser) (read : Token) → HasRead text at parser
    → IsNext text at read → read.kind ≡ token_kind.End → length text ≤ most_bytes → at ≡ 0 → IsFilterText text None
empty_filter text at parser read (tokens, frames, prefix, runs, shown, start, none) present end_is small zero_is = (
  small,
  (
    tokens,
    all_tokens text tokens at read prefix present end_is,
    subst (λ (list : List Placed). IsFilter most_levels (tokens_of list) None) (sym (start zero_is))
        (Grammar.empty most_levels),
  ),
)

-- A text after which the parser has an expression is this filter.
pub complete_filter : (text : List ℕ) (at : ℕ) (parser : Parser) (read : Token) (steps : List Step)
    → HasRead text at parser → IsNext text at read → read.kind ≡ token_kind.End → length text ≤ most_bytes
    → ((frames : List Frame) → IsShown parser frames
    → (e : Expr) × (expression_of (settled (state_of parser frames)) ≡ Some e) × (steps ≡ steps_of e))
    → (tree : Option Expr) × IsFilterText text tree × (steps ≡ steps_of_text tree)
complete_filter text at parser read steps (tokens, frames, prefix, runs, shown, start, none) present end_is small done =
    let (e, has, same) = done frames shown in (
      Some e,
      (
        small,
        (
          tokens,
          all_tokens text tokens at read prefix present end_is,
          runs_filter most_levels (tokens_of tokens) (state_of parser frames) e runs has,
        ),
      ),
      same,
    )

no_filter : (most : ℕ) (tokens : List Tokens.Token) (state : State) → Runs most first_state tokens state
    → expression_of (settled state) ≡ None → (tokens ≡ [] → ⊥) → (tree : Option Expr) → IsFilter most tokens tree → ⊥
no_filter most tokens state runs none some tree (Grammar.empty n) = some refl
no_filter most tokens state runs none some tree (Grammar.expression n all e after is) =
    let (last, again, has) = filter_runs n all e (Grammar.expression n all e after is) in
    let same : last ≡ state = runs_once n first_state last state all again runs in
    let clash = sym has ∙ ap (λ (s : State). expression_of (settled s)) same ∙ none in let never : ⊥ = cc in never

tokens_empty : (tokens : List Placed) → tokens_of tokens ≡ [] → tokens ≡ []
tokens_empty [] none = refl
tokens_empty (first ∷ tokens) none = let never : ⊥ = cc in absurd never

-- A text after which the parser has no expression ends too early.
pub ends_early : (text : List ℕ) (at : ℕ) (parser : Parser) (read : Token) (found : FilterErrorKind)
    (error : FilterError) → HasRead text at parser → IsNext text at read → read.kind ≡ token_kind.End
    → length text ≤ most_bytes → at ≢ 0
    → ((frames : List Frame) → IsShown parser frames → (found ≡ kind.Memory) ⊎ ((found ≡ kind.End)
    × (expression_of (settled (state_of parser frames)) ≡ None)))
    → error ≡ record { kind = found; start = length text; end = length text }
    → (error.kind ≡ kind.Memory) ⊎ RefusesText text error
ends_early text at parser read found error (tokens, frames, prefix, runs, shown, start, none) present end_is small some
    stops error_is = early (stops frames shown)
  where
    early : (found ≡ kind.Memory) ⊎ ((found ≡ kind.End) × (expression_of (settled (state_of parser frames)) ≡ None))
        → (error.kind ≡ kind.Memory) ⊎ RefusesText text error
    early (inl memory) = inl (ap (λ (e : FilterError). e.kind) error_is ∙ memory)
    early (inr (found_is, has_none)) =
        inr (inr (
          small,
          (
            tokens,
            all_tokens text tokens at read prefix present end_is,
            inl (
              runs_begin most_levels (tokens_of tokens) (state_of parser frames) runs,
              no_filter most_levels (tokens_of tokens) (state_of parser frames) runs has_none
                  (λ empty_is. some (none (tokens_empty tokens empty_is))),
              error_is
                  ∙ ap (λ (k : FilterErrorKind). record { kind = k; start = length text; end = length text }) found_is,
            ),
          ),
        ))

-- ---- a token that is not allowed

not_allowed : (prefix : List Tokens.Token) (state : State) (token : Tokens.Token) (found : FilterErrorKind)
    → Runs most_levels first_state prefix state → Stops most_levels state token found
    → IsAllowed most_levels prefix token → ⊥
not_allowed prefix state token found runs stops allowed =
    let (after, reads) = allowed_reads most_levels prefix token state runs allowed in
    stops_apart most_levels state after token found reads stops

-- The kind of error that the next token has is that of the definition.
pub refuses_token : (text : List ℕ) (at : ℕ) (parser : Parser) (read : Token) (found : FilterErrorKind)
    → HasRead text at parser → IsNext text at read → read.kind ≢ token_kind.End → length text ≤ most_bytes
    → ((frames : List Frame) → IsShown parser frames → (found ≡ kind.Memory)
    ⊎ Stops most_levels (state_of parser frames) (placed text read).token found)
    → (found ≡ kind.Memory) ⊎ RefusesText text (record { kind = found; start = read.start; end = read.end })
refuses_token text at parser read found (tokens, frames, prefix, runs, shown, start, none) present some small stops =
    refuses (stops frames shown)
  where
    refuses : (found ≡ kind.Memory) ⊎ Stops most_levels (state_of parser frames) (placed text read).token found
        → (found ≡ kind.Memory) ⊎ RefusesText text (record { kind = found; start = read.start; end = read.end })
    refuses (inl memory) = inl memory
    refuses (inr stops_it) =
        let (others, are) = tokens_exist read.end (drop read.end text) in
        let more = prefix_next text tokens at read prefix present some in
        inr (inr (
          small,
          (
            (tokens ++ placed text read ∷ []) ++ others,
            more.1 others are,
            inr (
              tokens,
              others,
              placed text read,
              append_assoc tokens (placed text read ∷ []) others,
              runs_begin most_levels (tokens_of tokens) (state_of parser frames) runs,
              not_allowed (tokens_of tokens) (state_of parser frames) (placed text read).token found runs stops_it,
              stops_kind (tokens_of tokens) (state_of parser frames) (placed text read).token found runs stops_it,
              refl,
              refl,
            ),
          ),
        ))
