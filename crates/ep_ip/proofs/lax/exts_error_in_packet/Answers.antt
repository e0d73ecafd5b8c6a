use Rattle.ep_ip.proofs.LaxIpLemmas.{reported_after}
use Rattle.ep_ip.proofs.lax.exts_error_in_packet.Goals as goal

pub exts_error_after_header-requires : goal.exts_error_after_header-requires
exts_error_after_header-requires c = c.requires c.in-Some.read c.in-Some.is

pub returns-in-Some : goal.returns-in-Some
returns-in-Some c = λ stop stops.
    reported_after c.args.header_len c.args.len_source c.args.refused c.in-Some.read c.in-Some.is stop stops
    c.exts_error_after_header.result c.exts_error_after_header.ensures
