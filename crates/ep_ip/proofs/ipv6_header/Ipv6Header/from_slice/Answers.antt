use Rattle.std.proofs.Common.{sym}
use Rattle.ep_base.proofs.TableLemmas.{value_shown}
use Rattle.ep_ip.proofs.Ipv6Lemmas.{ipv6_header_is_read}
use Rattle.ep_ip.proofs.ipv6_header.Ipv6Header.from_slice.Goals as goal

pub returns : goal.returns
returns c =
    let ok = c.in_ok-header.ensures.ok in
    let read = value_shown ipv6_header_is_read c.args.slice.now c.in_ok-header.header.bytes.slice.now ok.0 40 _
    c.to_header.result ok.1 (sym c.in_ok-header.header.bytes.whole) c.to_header.ensures ok.2 in
    record { ok = read.ok; only = read.only; err = tt }
