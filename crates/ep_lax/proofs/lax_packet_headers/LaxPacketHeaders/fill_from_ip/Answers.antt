use Rattle.std.proofs.Common.{ap}
use Rattle.std.proofs.lemmas.Result.{IfOk-weaker}
use Rattle.ep_lax.specs.LaxPacketHeaders.{LaxHeaders, lax_headers_of}
use Rattle.ep_lax.proofs.LaxPacketHeadersLemmas.{ip_filled}
use Rattle.ep_lax.proofs.lax_packet_headers.LaxPacketHeaders.fill_from_ip.Goals as goal

pub returns-clause-ok : goal.returns-clause-ok
returns-clause-ok c =
    IfOk-weaker c.fill_ip.result _ _
    (λ done fills. ip_filled c.args.slice.now (lax_headers_of c.set_link.new.self)
    (lax_headers_of c.fill_ip.new.self) (ap (λ (h : LaxHeaders). h.link) c.set_link.ensures)
    (ap (λ (h : LaxHeaders). h.link_exts) c.set_link.ensures) fills)
    c.fill_ip.ensures.ok
