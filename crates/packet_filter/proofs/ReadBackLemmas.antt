-- The law `read_back`: the printed form of a filter is a text of the same filter.
use Rattle.std.proofs.Common.{ℕ, ◌≤◌, List, [], ◌++◌, length, Option, Some, None, sym, subst}
use Rattle.std.proofs.lemmas.List.{append-nil}
use Rattle.std.proofs.lemmas.List.Elements.{All-nil}
use Rattle.std.specs.Prelude.{IsTrue}
use Rattle.filter_tokens.specs.Tokens.{Token, is_blank, tokens_of}
use Rattle.filter_language.specs.Grammar
use Rattle.filter_language.specs.Grammar.{IsFilter, most_bytes, most_levels}
use Rattle.filter_language.specs.Printing.{expression_text, printed}
use Rattle.filter_language.specs.Refusals.{IsFilterText}
use Rattle.filter_language.specs.Trees.{Expr}
use Rattle.packet_filter.proofs.LexingLemmas
use Rattle.packet_filter.proofs.LexingLemmas.{IsLexed, placed_tokens}
use Rattle.packet_filter.proofs.PrintedLemmas.{printed_expression}
use Rattle.packet_filter.proofs.PrintedTokens.{IsPrintable, expression_printable, printed_tokens}
use Rattle.packet_filter.proofs.KeywordTextLemmas
use Rattle.packet_filter.proofs.PrintedTextLemmas.{lexed_expression}

filter_printable : (levels : ℕ) (tokens : List Token) (e : Expr) → IsFilter levels tokens (Some e)
    → IsPrintable levels e
filter_printable levels tokens e (Grammar.expression n all f after is) = expression_printable n None after all f is

-- The whole text of an expression that fits consists of the printed tokens.
lexed_complete : (levels : ℕ) (e : Expr) → IsPrintable levels e → IsLexed (expression_text e) (printed_tokens e)
lexed_complete levels e (fits, few) =
    subst (λ (tokens : List Token). IsLexed (expression_text e) tokens) (append-nil (printed_tokens e))
    (subst (λ (text : List ℕ). IsLexed text (printed_tokens e ++ [])) (append-nil (expression_text e))
    (lexed_expression e fits [] [] KeywordTextLemmas.at_end LexingLemmas.no_text))

printed_filter : (levels : ℕ) (e : Expr) → IsPrintable levels e → IsFilter levels (printed_tokens e) (Some e)
printed_filter levels e fits =
    let (after, is) = printed_expression levels None e fits in
    Grammar.expression levels (printed_tokens e) e after is

-- The printed form of a filter is a text of the same filter, unless it is too long.
pub read_back : (tree : Option Expr) (text : List ℕ) → IsFilterText text tree → length (printed tree) ≤ most_bytes
    → IsFilterText (printed tree) tree
read_back None text is fits =
    (fits, ([], All-nil (λ b. IsTrue (is_blank b)), Grammar.empty most_levels))
read_back (Some e) text (short, (tokens, read, filter)) fits =
    let printable : IsPrintable most_levels e = filter_printable most_levels (tokens_of tokens) e filter in
    let (placed, printed_read, same) =
    placed_tokens (expression_text e) (printed_tokens e) 0 (lexed_complete most_levels e printable) in (
      fits,
      (
        placed,
        printed_read,
        subst (λ (list : List Token). IsFilter most_levels list (Some e)) (sym same)
            (printed_filter most_levels e printable),
      ),
    )
