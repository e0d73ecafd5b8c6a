use Rattle.std.proofs.Common.{◌≡◌, ◌++◌, ℕ, List, Option, false, arith}
use Rattle.std.proofs.lemmas.Grind.{common_steps}
use Rattle.ep_base.specs.Bytes.{AreBytes}
use Rattle.ep_base.specs.Readings.{slices}
use Rattle.ep_base.specs.declared.err.ip_auth.HeaderSliceError.{HeaderSliceError}
use Rattle.ep_ip.specs.Ipv4.{RefusesIpv4Header}
use Rattle.ep_lax.specs.declared.lax_ipv4_slice.LaxIpv4Slice.{LaxIpv4Slice}
use Rattle.ep_ip.specs.LaxIp.{IsLaxIpv4}
use Rattle.ep_lax.specs.LaxSlices.{lax_ipv4_of, lax_ipv4_slice_bytes}
use Rattle.ep_ip.proofs.LaxIpLemmas.{one_lax_ipv4, refused_no_lax_ipv4}
use Rattle.ep_base.proofs.LaxSliceLemmas.{only_answer}
use Rattle.ep_lax.proofs.lax_ipv4_slice.LaxIpv4Slice.from_slice.Goals as goal

pub returns-clause-err : goal.returns-clause-err
returns-clause-err c = grind (arith, common_steps)

pub returns-clause-only : goal.returns-clause-only
returns-clause-only c =
    let bytes = c.args.slice.now in
    let fits : AreBytes bytes = λ i. omega (arith, c.type_inv.slice i) in
    λ lax is. only_answer c.read.result
    (λ (read : LaxIpv4Slice × Option HeaderSliceError). (left : List ℕ) × (bytes ≡ lax_ipv4_slice_bytes read.0 ++ left)
    × IsLaxIpv4 false bytes (lax_ipv4_of read.0 left read.1))
    (λ (read : LaxIpv4Slice × Option HeaderSliceError). lax_ipv4_of read.0 lax.packet.left read.1 ≡ lax)
    (RefusesIpv4Header bytes) c.read.ensures.ok c.read.ensures.err
    (λ read ok.
    let one = one_lax_ipv4 slices false bytes fits (lax_ipv4_of read.0 ok.0 read.1) lax ok.2 is in
    λ i. record (one i) { packet = record (one i).packet { left = lax.packet.left } })
    (λ error refused. refused_no_lax_ipv4 slices false bytes error refused lax is)
