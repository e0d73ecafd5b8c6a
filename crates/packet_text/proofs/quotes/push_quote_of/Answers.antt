use Rattle.std.proofs.Common.{ℕ, List, Option, [], ap, refl, subst, sym}
use Rattle.std.proofs.lemmas.List.{append-nil}
use Rattle.std.proofs.lemmas.Result.{on_ok_weaker}
use Rattle.std.specs.Option.{option_copied}
use Rattle.packet_text.specs.Quotes.{IsQuoteOf}
use Rattle.packet_text.proofs.quotes.push_quote_of.Goals as goal

pub returns-in-Some : goal.returns-in-Some
returns-in-Some c =
    on_ok_weaker c.push_quote.result
    (λ pushed. (
      pushed.0,
      subst (λ (o : Option (List ℕ)). IsQuoteOf o pushed.0) (sym (ap option_copied c.in-Some.is)) pushed.1,
      pushed.2,
    )) c.push_quote.ensures

pub returns-in-None : goal.returns-in-None
returns-in-None c = (
  [],
  subst (λ (o : Option (List ℕ)). IsQuoteOf o []) (sym (ap option_copied c.in-None.is)) refl,
  sym (append-nil c.args.output.now.items),
)
