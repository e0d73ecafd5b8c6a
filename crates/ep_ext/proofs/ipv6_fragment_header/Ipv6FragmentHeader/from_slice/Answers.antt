use Rattle.std.proofs.Common.{arith, sym}
use Rattle.ep_base.proofs.BytesLemmas.{prefix_within}
use Rattle.ep_base.proofs.TableLemmas.{value_shown}
use Rattle.ep_ext.proofs.FragmentHeaderLemmas.{fragment_header_is_read}
use Rattle.ep_ext.proofs.ipv6_fragment_header.Ipv6FragmentHeader.from_slice.Goals as goal

pub slice_bounds-result-count : goal.slice_bounds-result-count
slice_bounds-result-count c =
    let ok = c.in_ok-header.ensures.ok in
    omega (arith, prefix_within c.args.slice.now c.in_ok-header.header.bytes.slice.now ok.0 _ ok.1 (sym c.in_ok-header.header.bytes.whole))

pub slice_bounds-result-start : goal.slice_bounds-result-start
slice_bounds-result-start c =
    let ok = c.in_ok-header.ensures.ok in
    omega (arith, prefix_within c.args.slice.now c.in_ok-header.header.bytes.slice.now ok.0 _ ok.1 (sym c.in_ok-header.header.bytes.whole))

pub returns : goal.returns
returns c =
    let ok = c.in_ok-header.ensures.ok in
    let read = value_shown fragment_header_is_read c.args.slice.now c.in_ok-header.header.bytes.slice.now ok.0 8 _
    c.to_header.result ok.1 (sym c.in_ok-header.header.bytes.whole) c.to_header.ensures ok.2 in
    record { ok = read.ok; only = read.only; err = tt }
