use Rattle.std.proofs.Common.{arith}
use Rattle.ep_base.proofs.BytesLemmas.{prefix_within}
use Rattle.ep_base.proofs.TableLemmas.{value_shown}
use Rattle.ep_ip.proofs.Ipv4Lemmas.{ipv4_header_is_read}
use Rattle.ep_ip.proofs.ipv4_header.Ipv4Header.from_slice.Goals as goal

pub slice_bounds-result-count : goal.slice_bounds-result-count
slice_bounds-result-count c =
    let ok = c.in_ok-header.ensures.ok in
    omega (arith, prefix_within c.args.slice.now c.in_ok-header.header.bytes.slice.now ok.0 _ ok.1 c.header_len.ensures.bytes)

pub slice_bounds-result-start : goal.slice_bounds-result-start
slice_bounds-result-start c =
    let ok = c.in_ok-header.ensures.ok in
    omega (arith, prefix_within c.args.slice.now c.in_ok-header.header.bytes.slice.now ok.0 _ ok.1 c.header_len.ensures.bytes)

pub returns : goal.returns
returns c =
    let ok = c.in_ok-header.ensures.ok in
    let read = value_shown ipv4_header_is_read c.args.slice.now c.in_ok-header.header.bytes.slice.now ok.0 c.header_len.result _
    c.to_header.result ok.1 c.header_len.ensures.bytes c.to_header.ensures ok.2 in
    record { ok = read.ok; only = read.only; err = tt }
