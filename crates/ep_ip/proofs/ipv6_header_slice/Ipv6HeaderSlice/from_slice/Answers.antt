use Rattle.std.proofs.Common.{◌≡◌, length, take, drop, take-append-drop, length-take-le, sym, ◌∙◌, arith}
use Rattle.std.proofs.lemmas.Grind.{common_steps}
use Rattle.ep_base.specs.Bytes.{AreBytes}
use Rattle.ep_base.proofs.BytesLemmas.{AreBytes-take}
use Rattle.ep_base.proofs.TableLemmas.{one_value}
use Rattle.ep_ip.specs.Ip.{version_of}
use Rattle.ep_ip.specs.Ipv6.{IsIpv6Header, ipv6_header_of}
use Rattle.ep_ip.proofs.Ipv6Lemmas.{header_present, prefix_version, ipv6_header_is_read}
use Rattle.ep_ip.proofs.ipv6_header_slice.Ipv6HeaderSlice.from_slice.Goals as goal

pub invariant_of-result : goal.invariant_of-result
invariant_of-result c =
    let bytes = c.args.slice.now in
    let version : version_of bytes ≡ 6 = grind (arith, common_steps) in
    record { version = prefix_version 40 bytes (omega arith) ∙ version; whole = length-take-le 40 bytes (omega arith) }

pub returns : goal.returns
returns c =
    let bytes = c.args.slice.now in
    let e = take 40 bytes in
    let left = drop 40 bytes in
    let fits : AreBytes bytes = λ i. omega (arith, c.type_inv.slice i) in
    let version : version_of bytes ≡ 6 = grind (arith, common_steps) in
    let shown : version_of e ≡ 6 = prefix_version 40 bytes (omega arith) ∙ version in
    let complete : length e ≡ 40 = length-take-le 40 bytes (omega arith) in
    let parts = sym (take-append-drop 40 bytes) in
    let is : IsIpv6Header bytes (ipv6_header_of e, left) =
    header_present bytes e left (AreBytes-take 40 bytes fits) shown complete parts in
    record {
      ok = (left, parts, is);
      only = λ header rest other.
          let same = one_value ipv6_header_is_read bytes (ipv6_header_of e, left) (header, rest) is other in
          λ i. (same i).0;
      err = tt;
    }
