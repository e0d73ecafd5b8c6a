-- Every text is a filter or has an error.
use Rattle.std.proofs.Common.{◌≡◌, ℕ, ◌≤◌, ◌⊎◌, inl, inr, List, [], ◌∷◌, ◌++◌, length, Option, Some, None, refl, ap, ap₂, sym, ◌∙◌, subst, append_assoc, append-nil, arith}
use Rattle.std.proofs.lemmas.Bool.{cases_lt}
use Rattle.filter_tokens.specs.declared.filter_error.FilterError.{FilterError}
use Rattle.filter_tokens.specs.declared.filter_error.FilterErrorKind.{FilterErrorKind}
use Rattle.filter_tokens.specs.declared.filter_error.FilterErrorKind.TheVariants as kind
use Rattle.filter_tokens.specs.Tokens.{Token, Placed, IsTokens, tokens_of}
use Rattle.filter_tokens.proofs.TokenListLemmas.{one_list, tokens_exist}
use Rattle.filter_language.specs.Grammar.{IsFilter, empty, most_bytes, most_levels}
use Rattle.packet_filter.specs.Laws.{IsDecided}
use Rattle.filter_language.specs.Refusals.{BeginsFilter, EndsEarly, IsAllowed, IsFilterText, IsKind, RefusesText, RefusesToken}
use Rattle.filter_language.specs.States.{State, Runs, expression_of, first_state, no_tokens, settled}
use Rattle.filter_language.specs.Trees.{Expr}
use Rattle.packet_filter.proofs.DecideLemmas.{StopsFirst, every_token}
use Rattle.filter_language.proofs.KindLemmas.{kind_stops, stops_kind, stops_once}
use Rattle.filter_language.proofs.RunLemmas.{allowed_reads, begins_runs, filter_runs, runs_once, stops_apart}
use Rattle.filter_language.proofs.StandLemmas.{runs_begin, runs_filter}

-- ---- what begins a filter

tokens_joined : (prefix back : List Placed) → tokens_of (prefix ++ back) ≡ tokens_of prefix ++ tokens_of back
tokens_joined [] back = refl
tokens_joined (first ∷ prefix) back = ap (λ list. first.token ∷ list) (tokens_joined prefix back)

-- Tokens at the start of others that begin a filter do too.
begins_prefix : (most : ℕ) (prefix back : List Token) → BeginsFilter most (prefix ++ back) → BeginsFilter most prefix
begins_prefix most prefix back (others, tree, is) =
    (back ++ others, tree, subst (λ list. IsFilter most list tree) (append_assoc prefix back others) is)

-- A token is allowed that tokens which begin a filter go on with.
allowed_first : (prefix back : List Placed) (first : Placed)
    → BeginsFilter most_levels (tokens_of (prefix ++ first ∷ back)) → IsAllowed most_levels (tokens_of prefix) first.token
allowed_first prefix back first begins =
    begins_prefix most_levels (tokens_of prefix ++ first.token ∷ []) (tokens_of back)
    (subst (BeginsFilter most_levels)
    (tokens_joined prefix (first ∷ back)
    ∙ sym (append_assoc (tokens_of prefix) (first.token ∷ []) (tokens_of back))) begins)

-- The tokens of a filter begin one.
filter_begins : (most : ℕ) (tokens : List Token) (tree : Option Expr) → IsFilter most tokens tree
    → BeginsFilter most tokens
filter_begins most tokens tree is =
    ([], tree, subst (λ list. IsFilter most list tree) (sym (append-nil tokens)) is)

-- ---- one filter

-- Only no tokens are the empty filter.
empty_tokens : (most : ℕ) (tokens : List Token) → IsFilter most tokens None → tokens ≡ []
empty_tokens most tokens (empty levels) = refl

one_expression : (tokens : List Token) (e f : Expr) → IsFilter most_levels tokens (Some e)
    → IsFilter most_levels tokens (Some f) → Some e ≡ Some f
one_expression tokens e f is is' =
    let (state, runs, found) = filter_runs most_levels tokens e is in
    let (state', runs', found') = filter_runs most_levels tokens f is' in
    let same : state ≡ state' = runs_once most_levels first_state state state' tokens runs runs' in
    sym found ∙ ap (λ (s : State). expression_of (settled s)) same ∙ found'

no_expression : (tokens : List Token) (e : Expr) → IsFilter most_levels tokens None
    → IsFilter most_levels tokens (Some e) → ⊥
no_expression tokens e none is =
    let is' : IsFilter most_levels [] (Some e) =
    subst (λ list. IsFilter most_levels list (Some e)) (empty_tokens most_levels tokens none) is in
    let (state, runs, found) = filter_runs most_levels [] e is' in
    let same : first_state ≡ state =
    runs_once most_levels first_state first_state state [] (no_tokens first_state) runs in
    let clash : None ≡ Some e = ap (λ (s : State). expression_of (settled s)) same ∙ found in
    let never : ⊥ = cc in never

one_tree : (tokens : List Token) (tree tree' : Option Expr) → IsFilter most_levels tokens tree
    → IsFilter most_levels tokens tree' → tree ≡ tree'
one_tree tokens None None is is' = refl
one_tree tokens None (Some e) is is' = absurd (no_expression tokens e is is')
one_tree tokens (Some e) None is is' = absurd (no_expression tokens e is' is)
one_tree tokens (Some e) (Some f) is is' = one_expression tokens e f is is'

one_filter_text : (text : List ℕ) (tree tree' : Option Expr) → IsFilterText text tree → IsFilterText text tree'
    → tree ≡ tree'
one_filter_text text tree tree' (short, (tokens, is, filter)) (short', (tokens', is', filter')) =
    one_tree (tokens_of tokens) tree tree' filter
    (subst (λ (list : List Placed). IsFilter most_levels (tokens_of list) tree')
    (one_list 0 text tokens' tokens is' is) filter')

-- ---- a filter or an error

-- Tokens that are no filter.
no_filter : (tokens : List Token) (state : State) → Runs most_levels first_state tokens state
    → (expression_of (settled state) ≡ None) → (¬ (tokens ≡ [])) → (tree : Option Expr)
    → ¬ IsFilter most_levels tokens tree
no_filter tokens state runs none some None is = some (empty_tokens most_levels tokens is)
no_filter tokens state runs none some (Some e) is =
    let (state', runs', found) = filter_runs most_levels tokens e is in
    let same : state ≡ state' = runs_once most_levels first_state state state' tokens runs runs' in
    let clash : None ≡ Some e = sym none ∙ ap (λ (s : State). expression_of (settled s)) same ∙ found in
    let never : ⊥ = cc in never

abbrev Outcome : List ℕ → List Placed → Type 0
Outcome text tokens =
    ((tree : Option Expr) × IsFilter most_levels (tokens_of tokens) tree)
    ⊎ ((error : FilterError) × (EndsEarly text tokens error ⊎ RefusesToken tokens error))

ended : (text : List ℕ) (tokens : List Placed) (state : State) → Runs most_levels first_state (tokens_of tokens) state
    → (found : Option Expr) → expression_of (settled state) ≡ found → Outcome text tokens
ended text tokens state runs (Some e) is =
    inl (Some e, runs_filter most_levels (tokens_of tokens) state e runs is)
ended text [] state runs None is = inl (None, empty most_levels)
ended text (first ∷ others) state runs None is = inr (
  record { kind = kind.End; start = length text; end = length text },
  inl (
    runs_begin most_levels (tokens_of (first ∷ others)) state runs,
    no_filter (tokens_of (first ∷ others)) state runs is (λ none. let never : ⊥ = cc in never),
    refl,
  ),
)

stopped : (text : List ℕ) (tokens : List Placed) → StopsFirst most_levels first_state tokens → Outcome text tokens
stopped text tokens (prefix, others, first, state, found, is, runs, stops) = inr (
  record { kind = found; start = first.start; end = first.end },
  inr (
    prefix,
    others,
    first,
    is,
    runs_begin most_levels (tokens_of prefix) state runs,
    (λ allowed.
        let (after, reads) = allowed_reads most_levels (tokens_of prefix) first.token state runs allowed in
        stops_apart most_levels state after first.token found reads stops),
    stops_kind (tokens_of prefix) state first.token found runs stops,
    refl,
    refl,
  ),
)

outcome : (text : List ℕ) (tokens : List Placed) → Outcome text tokens
outcome text tokens = elim (every_token most_levels first_state tokens) [
  | inl (state, runs) ↦ ended text tokens state runs (expression_of (settled state)) refl
  | inr stops ↦ stopped text tokens stops
]

-- A text is a filter or has an error.
pub text_decided : (text : List ℕ)
    → ((tree : Option Expr) × IsFilterText text tree) ⊎ ((error : FilterError) × RefusesText text error)
text_decided text = elim (cases_lt most_bytes (length text)) [
  | inl long ↦ inr (record { kind = kind.Long; start = most_bytes; end = length text }, inl (long, refl))
  | inr short ↦ short_decided text short (tokens_exist 0 text)
]
  where
    with_outcome : (text : List ℕ) → length text ≤ most_bytes → (tokens : List Placed) → IsTokens 0 text tokens
        → Outcome text tokens
        → ((tree : Option Expr) × IsFilterText text tree) ⊎ ((error : FilterError) × RefusesText text error)
    with_outcome text short tokens is (inl (tree, filter)) = inl (tree, (short, (tokens, is, filter)))
    with_outcome text short tokens is (inr (error, refused)) = inr (error, inr (short, (tokens, is, refused)))

    short_decided : (text : List ℕ) → length text ≤ most_bytes → (tokens : List Placed) × IsTokens 0 text tokens
        → ((tree : Option Expr) × IsFilterText text tree) ⊎ ((error : FilterError) × RefusesText text error)
    short_decided text short (tokens, is) = with_outcome text short tokens is (outcome text tokens)

-- ---- one error

-- Two places in a list: the same, or one before the other.
abbrev Places : (prefix prefix' : List Placed) (first first' : Placed) → Type 0
Places prefix prefix' first first' =
    ((prefix ≡ prefix') × (first ≡ first'))
    ⊎ ((between : List Placed) × (prefix' ≡ prefix ++ first ∷ between))
    ⊎ ((between : List Placed) × (prefix ≡ prefix' ++ first' ∷ between))

same_first : {A : Type 0} (x x' : A) (xs xs' : List A) → x ∷ xs ≡ x' ∷ xs' → x ≡ x'
same_first x x' xs xs' is = cc

same_others : {A : Type 0} (x x' : A) (xs xs' : List A) → x ∷ xs ≡ x' ∷ xs' → xs ≡ xs'
same_others x x' xs xs' is = cc

places : (prefix prefix' others others' : List Placed) (first first' : Placed)
    → prefix ++ first ∷ others ≡ prefix' ++ first' ∷ others' → Places prefix prefix' first first'
places [] [] others others' first first' is = inl (refl, same_first first first' others others' is)
places [] (p ∷ prefix') others others' first first' is =
    inr (inl (
      prefix',
      ap (λ (f : Placed). f ∷ prefix')
          (sym (same_first first p others (prefix' ++ first' ∷ others') is)),
    ))
places (p ∷ prefix) [] others others' first first' is =
    inr (inr (prefix, ap (λ (f : Placed). f ∷ prefix) (same_first p first' (prefix ++ first ∷ others) others' is)))
places (p ∷ prefix) (p' ∷ prefix') others others' first first' is =
    later p p' (same_first p p' (prefix ++ first ∷ others) (prefix' ++ first' ∷ others') is)
    (places prefix prefix' others others' first first'
    (same_others p p' (prefix ++ first ∷ others) (prefix' ++ first' ∷ others') is))
  where
    later : (p p' : Placed) → p ≡ p' → Places prefix prefix' first first'
        → Places (p ∷ prefix) (p' ∷ prefix') first first'
    later p p' same (inl (fronts, firsts)) = inl (ap₂ (λ (x : Placed) (xs : List Placed). x ∷ xs) same fronts, firsts)
    later p p' same (inr (inl (between, is))) =
        inr (inl (between, ap₂ (λ (x : Placed) (xs : List Placed). x ∷ xs) (sym same) is))
    later p p' same (inr (inr (between, is))) =
        inr (inr (between, ap₂ (λ (x : Placed) (xs : List Placed). x ∷ xs) same is))

-- The tokens before a token that is not allowed do not go on after it.
not_before : (prefix prefix' between : List Placed) (first : Placed) → BeginsFilter most_levels (tokens_of prefix')
    → (¬ IsAllowed most_levels (tokens_of prefix) first.token) → prefix' ≡ prefix ++ first ∷ between → ⊥
not_before prefix prefix' between first begins none is =
    none (allowed_first prefix between first
    (subst (λ (list : List Placed). BeginsFilter most_levels (tokens_of list)) is begins))

same_error : (error error' : FilterError) → error.kind ≡ error'.kind → error.start ≡ error'.start
    → error.end ≡ error'.end → error ≡ error'
same_error error error' kinds starts ends = λ i. record { kind = kinds i; start = starts i; end = ends i }

-- The kind of an error at a place.
one_kind : (prefix : List Token) (token : Token) (found found' : FilterErrorKind) → BeginsFilter most_levels prefix
    → (¬ IsAllowed most_levels prefix token) → IsKind prefix token found → IsKind prefix token found' → found ≡ found'
one_kind prefix token found found' begins none is is' =
    let (state, runs) = begins_runs most_levels prefix begins in
    stops_once most_levels state token found found' (kind_stops prefix state token found runs none is)
    (kind_stops prefix state token found' runs none is')

one_refusal : (tokens : List Placed) (error error' : FilterError) → RefusesToken tokens error
    → RefusesToken tokens error' → error ≡ error'
one_refusal tokens error error' (prefix, others, first, is, begins, none, kind_is, start, end)
    (prefix', others', first', is', begins', none', kind_is', start', end') =
    elim (places prefix prefix' others others' first first' (sym is ∙ is')) [
      | inl (fronts, firsts) ↦
          same_error error error'
          (one_kind (tokens_of prefix) first.token error.kind error'.kind begins none kind_is
          (subst (λ (list : List Placed). IsKind (tokens_of list) first.token error'.kind) (sym fronts)
          (subst (λ (p : Placed). IsKind (tokens_of prefix') p.token error'.kind) (sym firsts) kind_is')))
          (start ∙ ap (λ (p : Placed). p.start) firsts ∙ sym start')
          (end ∙ ap (λ (p : Placed). p.end) firsts ∙ sym end')
      | inr apart ↦ elim apart [
        | inl (between, later) ↦ absurd (not_before prefix prefix' between first begins' none later)
        | inr (between, earlier) ↦ absurd (not_before prefix' prefix between first' begins none' earlier)
      ]
    ]

-- Tokens that begin a filter have none that is not allowed.
not_refused : (tokens : List Placed) (error : FilterError) → BeginsFilter most_levels (tokens_of tokens)
    → RefusesToken tokens error → ⊥
not_refused tokens error begins (prefix, others, first, is, begins', none, kind_is, start, end) =
    not_before prefix tokens others first begins none is

one_end : (text : List ℕ) (tokens : List Placed) (error error' : FilterError)
    → EndsEarly text tokens error ⊎ RefusesToken tokens error
    → EndsEarly text tokens error' ⊎ RefusesToken tokens error' → error ≡ error'
one_end text tokens error error' (inl early) (inl early') = early.2 ∙ sym early'.2
one_end text tokens error error' (inl early) (inr refused) = absurd (not_refused tokens error' early.0 refused)
one_end text tokens error error' (inr refused) (inl early) = absurd (not_refused tokens error early.0 refused)
one_end text tokens error error' (inr refused) (inr refused') = one_refusal tokens error error' refused refused'

one_error_text : (text : List ℕ) (error error' : FilterError) → RefusesText text error → RefusesText text error'
    → error ≡ error'
one_error_text text error error' (inl long) (inl long') = long.1 ∙ sym long'.1
one_error_text text error error' (inl long) (inr short) = absurd (omega (arith, long.0, short.0))
one_error_text text error error' (inr short) (inl long) = absurd (omega (arith, long.0, short.0))
one_error_text text error error' (inr (short, (tokens, is, refused))) (inr (short', (tokens', is', refused'))) =
    one_end text tokens error error' refused
    (subst (λ (list : List Placed). EndsEarly text list error' ⊎ RefusesToken list error')
    (one_list 0 text tokens' tokens is' is) refused')

-- ---- never both

never_refused : (text : List ℕ) (tokens : List Placed) (tree : Option Expr) (error : FilterError)
    → IsFilter most_levels (tokens_of tokens) tree → EndsEarly text tokens error ⊎ RefusesToken tokens error → ⊥
never_refused text tokens tree error filter (inl early) = early.1 tree filter
never_refused text tokens tree error filter (inr refused) =
    not_refused tokens error (filter_begins most_levels (tokens_of tokens) tree filter) refused

never_both_text : (text : List ℕ) (tree : Option Expr) (error : FilterError) → IsFilterText text tree
    → RefusesText text error → ⊥
never_both_text text tree error (short, (tokens, is, filter)) (inl long) = omega (arith, short, long.0)
never_both_text text tree error (short, (tokens, is, filter)) (inr (short', (tokens', is', refused))) =
    never_refused text tokens' tree error
    (subst (λ (list : List Placed). IsFilter most_levels (tokens_of list) tree) (one_list 0 text tokens tokens' is is')
    filter) refused

-- The law of texts.
pub text_law : (text : List ℕ) → IsDecided text
text_law text = record {
  decided = text_decided text;
  one_filter = one_filter_text text;
  one_error = one_error_text text;
  never_both = never_both_text text;
}
