use Rattle.std.proofs.Common.{◌*◌, slice_index, bit_and, take, drop, take-append-drop, sym, arith}
use Rattle.std.proofs.lemmas.Grind.{common_steps}
use Rattle.ep_base.specs.Bytes.{AreBytes}
use Rattle.ep_base.proofs.BytesLemmas.{AreBytes-take}
use Rattle.ep_base.proofs.TableLemmas.{one_value}
use Rattle.ep_ip.specs.Ipv4.{IsIpv4Header, ipv4_header_of}
use Rattle.ep_ip.proofs.Ipv4Lemmas.{IsComplete, header_present, ipv4_header_is_read}
use Rattle.ep_ip.proofs.ipv4_header_slice.Ipv4HeaderSlice.from_slice.Goals as goal

pub returns : goal.returns
returns c =
    let bytes = c.args.slice.now in
    let n = bit_and (slice_index bytes 0) 15 * 4 in
    let e = take n bytes in
    let fits : AreBytes bytes = λ i. omega (arith, c.type_inv.slice i) in
    let complete : IsComplete e = record {
      fits = AreBytes-take n bytes fits;
      version = grind (arith, common_steps);
      words = grind (arith, common_steps);
      whole = grind (arith, common_steps);
    } in
    let parts = sym (take-append-drop n bytes) in
    let is : IsIpv4Header bytes (ipv4_header_of e, drop n bytes) = header_present bytes e (drop n bytes) complete parts in
    record {
      ok = (drop n bytes, parts, is);
      only = λ header rest other.
          let same = one_value ipv4_header_is_read bytes (ipv4_header_of e, drop n bytes) (header, rest) is other in
          λ i. (same i).0;
      err = tt;
    }
