use mathlib.Core.HLevel.{is_prop→PathP}
use Rattle.std.proofs.Common.{◌≡◌, refl, rules}
use Rattle.std.proofs.Props.{props}
use Rattle.ep_ext.specs.Ipv6ExtensionSlices.{ipv6_slice_number as extension_number}
use Rattle.ep_ip.specs.Ipv6Slices.{ipv6_header_slice_header}
use Rattle.ep_lax.specs.declared.lax_ipv6_slice.LaxIpv6Slice.{LaxIpv6Slice}
use Rattle.ep_lax.proofs.lax_ipv6_slice.LaxIpv6SliceClone.clone.Goals as goal

same_slice : (a b : LaxIpv6Slice) → a.header ≡ b.header → a.extensions ≡ b.extensions → a.payload ≡ b.payload → a ≡ b
same_slice a b p q r i = record {
  header = p i;
  extensions = q i;
  payload = r i;
  follows = is_prop→PathP (λ j. extension_number (q j) ≡ (ipv6_header_slice_header (p j)).next_header.0)
      (λ j. hlevel props) a.follows b.follows i;
}

pub returns : goal.returns
returns c =
    let header : c.in_ok-clone.field-0 ≡ c.args.self.now.header = search rules in
    let extensions : c.in_ok-clone-2.field-0 ≡ c.args.self.now.extensions = search rules in
    record { cases = same_slice _ c.args.self.now header extensions refl }
