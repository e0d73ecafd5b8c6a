use Rattle.std.proofs.Common.{sym, ap, ◌∙◌}
use Rattle.etherparse.specs.LaxPackets.{lax_layers_of}
use Rattle.etherparse.specs.Types.ChecksumVerdicts.{ChecksumVerdicts}
use Rattle.etherparse_c.specs.SliceAnswers.{entry_of}
use Rattle.etherparse_c.specs.VerdictAnswers.{with_verdicts}
use Rattle.etherparse_c.proofs.VerdictLemmas.{verified}
use Rattle.etherparse_c.proofs.verifying.etherparse_2_checksums.Goals as goal

pub returns-in-Ok : goal.returns-in-Ok
returns-in-Ok c =
    let packet = c.slice_into.new.self in
    let bytes = c.args.bytes.now in
    verified (entry_of c.args.entry c.args.ether_type) c.in-Some.entry bytes c.args.fields.now _ (lax_layers_of packet)
    (sym c.entry_of.ensures ∙ c.in-Some.is) c.in-Ok.ensures.ok
    (c.set_verdicts.ensures ∙ ap (λ (verdicts : ChecksumVerdicts). with_verdicts verdicts c.args.fields.now)
    (c.checksums.ensures.shown bytes packet c.in-Ok.ensures.bytes))
