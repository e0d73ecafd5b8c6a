use Rattle.std.proofs.Common.{◌≡◌, ◌++◌, ℕ, List, Option, ◌∙◌, false, arith}
use Rattle.std.specs.Option.{option_map}
use Rattle.ep_base.specs.Bytes.{AreBytes}
use Rattle.ep_base.specs.Readings.{slices}
use Rattle.ep_base.specs.declared.err.layer.Layer.{Layer}
use Rattle.ep_base.specs.declared.err.ipv6_exts.HeaderSliceError.{HeaderSliceError}
use Rattle.ep_ext.specs.ChainPrefixes.{chain_stop}
use Rattle.ep_ip.specs.Ipv6.{RefusesIpv6Header}
use Rattle.ep_lax.specs.declared.lax_ipv6_slice.LaxIpv6Slice.{LaxIpv6Slice}
use Rattle.ep_ip.specs.LaxIp.{IsLaxIpv6}
use Rattle.ep_lax.specs.LaxSlices.{lax_ipv6_of, lax_ipv6_slice_bytes}
use Rattle.ep_ip.proofs.LaxIpLemmas.{one_lax_ipv6, refused_no_lax_ipv6}
use Rattle.ep_base.proofs.LaxSliceLemmas.{only_answer}
use Rattle.ep_lax.proofs.lax_ipv6_slice.LaxIpv6Slice.from_slice.Goals as goal

pub returns-clause-only : goal.returns-clause-only
returns-clause-only c =
    let bytes = c.args.slice.now in
    let fits : AreBytes bytes = λ i. omega (arith, c.type_inv.slice i) in
    λ lax is. only_answer c.read.result
    (λ (read : LaxIpv6Slice × Option (HeaderSliceError × Layer)). (left : List ℕ) × (stop : Option HeaderSliceError)
    × (bytes ≡ lax_ipv6_slice_bytes read.0 ++ left) × IsLaxIpv6 false bytes (lax_ipv6_of read.0 left stop)
    × (read.1 ≡ option_map chain_stop stop))
    (λ (read : LaxIpv6Slice × Option (HeaderSliceError × Layer)). (lax_ipv6_of read.0 lax.packet.left lax.stop ≡ lax)
    × (read.1 ≡ option_map chain_stop lax.stop))
    (RefusesIpv6Header bytes) c.read.ensures.ok c.read.ensures.err
    (λ read ok.
    let one = one_lax_ipv6 slices false bytes fits (lax_ipv6_of read.0 ok.0 ok.1) lax ok.3 is in (
      λ i. record (one i) { packet = record (one i).packet { left = lax.packet.left }; stop = lax.stop },
      ok.4 ∙ (λ i. option_map chain_stop (one i).stop),
    ))
    (λ error refused. refused_no_lax_ipv6 slices false bytes error refused lax is)
