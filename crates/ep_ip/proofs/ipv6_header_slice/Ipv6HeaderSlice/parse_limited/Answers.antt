use Rattle.std.proofs.Common.{◌≤◌, length, ap, inl, inr, arith}
use Rattle.std.proofs.lemmas.List.{length-append}
use Rattle.ep_ip.proofs.Ipv6Lemmas.{packet_present}
use Rattle.ep_ip.proofs.ipv6_header_slice.Ipv6HeaderSlice.parse_limited.Goals as goal

pub slice_bounds-result-count : goal.slice_bounds-result-count
slice_bounds-result-count c =
    let shown = c.in-Ok.header.bytes in
    let ok = c.in-Ok.ensures.ok in
    omega (arith, ap length ok.1, length-append shown.slice.now ok.0, shown.whole)

pub slice_bounds-result-start : goal.slice_bounds-result-start
slice_bounds-result-start c =
    let shown = c.in-Ok.header.bytes in
    let ok = c.in-Ok.ensures.ok in
    omega (arith, ap length ok.1, length-append shown.slice.now ok.0, shown.whole)

pub returns-then-payload_length-eq0-clause-ok : goal.returns-then-payload_length-eq0-clause-ok
returns-then-payload_length-eq0-clause-ok c =
    let bytes = c.args.slice.now in
    let shown = c.in-Ok.header.bytes in
    let ok = c.in-Ok.ensures.ok in
    let long : 40 ≤ length bytes =
    omega (arith, ap length ok.1, length-append shown.slice.now ok.0, shown.whole) in
    packet_present bytes shown.slice.now ok.0 (length bytes) ok.1 shown.whole ok.2 long (omega arith)
    (inr (omega arith, omega arith))

pub returns-clause-ok : goal.returns-clause-ok
returns-clause-ok c =
    let bytes = c.args.slice.now in
    let shown = c.in-Ok.header.bytes in
    let ok = c.in-Ok.ensures.ok in
    packet_present bytes shown.slice.now ok.0 _ ok.1 shown.whole ok.2 (omega arith) (omega arith)
    (inl (omega arith, omega arith))
