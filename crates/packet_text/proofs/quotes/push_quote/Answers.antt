use Rattle.std.proofs.Common.{[], inl, inr, refl, sym}
use Rattle.std.proofs.lemmas.List.{append-nil}
use Rattle.std.proofs.lemmas.Result.{on_ok_weaker}
use Rattle.etherparse.specs.LaxPackets.{lax_layers_of}
use Rattle.packet_text.specs.Quotes.{quoted_text}
use Rattle.packet_text.proofs.quotes.push_quote.Goals as goal

pub returns-in-Ok : goal.returns-in-Ok
returns-in-Ok c =
    let read = lax_layers_of c.slice_into.new.self in
    on_ok_weaker c.push_quoted.result
    (λ pushed. (quoted_text read, inr (read, c.in-Ok.ensures.ok, refl), pushed)) c.push_quoted.ensures

pub returns-in-Err : goal.returns-in-Err
returns-in-Err c =
    ([], inl (c.in-Err.field-0, c.in-Err.ensures.err, refl), sym (append-nil c.args.output.now.items))
