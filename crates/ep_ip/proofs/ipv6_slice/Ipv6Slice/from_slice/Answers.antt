use Rattle.std.proofs.Common.{◌≤◌, ◌++◌, ap, length, arith}
use Rattle.std.proofs.lemmas.List.{length-append}
use Rattle.ep_base.specs.Bytes.{AreBytes}
use Rattle.ep_base.specs.Readings.{slices}
use Rattle.ep_base.specs.declared.err.len_error.LenError.{LenError}
use Rattle.ep_base.specs.declared.ip_number.IpNumber.{IpNumber}
use Rattle.ep_ext.specs.Chains.{chain_of}
use Rattle.ep_ext.specs.Ipv6ExtensionSlices.{ipv6_slice_parts}
use Rattle.ep_ip.specs.Ipv6Slices.{ipv6_header_slice_bytes}
use Rattle.ep_ip.proofs.ExtensionLawLemmas.{exts_within}
use Rattle.ep_ip.proofs.PacketLemmas.{ipv6_refused, ipv6_shown}
use Rattle.ep_ip.proofs.ipv6_slice.Ipv6Slice.from_slice.Goals as goal

pub after_header-requires : goal.after_header-requires
after_header-requires c =
    let ok = c.in_ok-header.ensures.ok in
    let error = c.in-Err-Len.error in
    let e = ipv6_header_slice_bytes c.in_ok-header.header in
    let content = c.in_ok-header.content.now in
    let within : error.layer_start_offset ≤ length content =
    exts_within slices c.next_header.result.0 content c.in-Err-Len.field-0 error c.in-Err-Len.field-0-is
    c.in-Err-Len.ensures.err in
    let same = ap (λ (e : LenError). e.layer_start_offset) c.in-Err-Len.error-is in
    omega (
      arith,
      within,
      same,
      ap length ok.1,
      c.in_ok-header.header.bytes.whole,
      length-append (e ++ content) ok.0,
      length-append e content,
    )

pub returns-in-Err-Len-clause-only : goal.returns-in-Err-Len-clause-only
returns-in-Err-Len-clause-only c =
    let fits : AreBytes c.args.slice.now = λ i. omega (arith, c.type_inv.slice i) in
    ipv6_refused c.args.slice.now fits _ c.in_ok-header.ensures.ok.2 c.next_header.result.0
    (ap (λ (n : IpNumber). n.0) c.next_header.ensures) _ c.in-Err-Len.ensures.err

pub returns-in-Err-Content-clause-only : goal.returns-in-Err-Content-clause-only
returns-in-Err-Content-clause-only c =
    let fits : AreBytes c.args.slice.now = λ i. omega (arith, c.type_inv.slice i) in
    ipv6_refused c.args.slice.now fits _ c.in_ok-header.ensures.ok.2 c.next_header.result.0
    (ap (λ (n : IpNumber). n.0) c.next_header.ensures) _ c.in-Err-Content.ensures.err

pub returns-clause-only : goal.returns-clause-only
returns-clause-only c =
    let fits : AreBytes c.args.slice.now = λ i. omega (arith, c.type_inv.slice i) in
    let read = c.in-Ok.read in
    ipv6_shown c.args.slice.now fits _ c.in_ok-header.ensures.ok.2 c.next_header.result.0
    (ap (λ (n : IpNumber). n.0) c.next_header.ensures) (chain_of (ipv6_slice_parts read.0) read.1.0 read.2.now)
    c.in-Ok.ensures.ok.1 c.is_fragmenting_payload.result c.is_fragmenting_payload.ensures
    c.in_ok-header.len_source c.in_ok-header.ensures.source
