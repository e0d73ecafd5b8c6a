-- Whether a text is an address, a network or a mask can be decided.
use Rattle.std.proofs.Common.{◌≡◌, ℕ, ◌-◌, ◌*◌, ◌<◌, inl, inr, List, [], ◌∷◌, ◌++◌, length, replicate, Option, Some, None, refl, ap, sym, ◌∙◌, subst, arith, lit<, lit≤, append-nil}
use Rattle.std.specs.Net.Addr.{ipv4_octets, ipv6_segments}
use Rattle.std.specs.Net.Grammar.{IsColonHex, IsDotted, IsIpText}
use Rattle.std.specs.Net.Reader.{read_ipv4, read_ipv6}
use Rattle.std.specs.declared.net.ip_addr.IpAddr.{IpAddr}
use Rattle.std.specs.declared.net.ip_addr.IpAddr.TheVariants.{V4, V6}
use Rattle.std.specs.declared.net.ipv4_addr.Ipv4Addr.{Ipv4Addr}
use Rattle.std.proofs.NetLemmas.Ipv4.{read_ipv4_complete, read_ipv4_sound}
use Rattle.std.proofs.NetLemmas.Ipv6.{EndsGroups-nil, read_ipv6_complete, read_ipv6_sound}
use Rattle.std.proofs.NetLemmas.Options.{same_parts}
use Rattle.std.proofs.NetLemmas.Theorems.{IsIpText_unique}
use Rattle.filter_tokens.specs.declared.network.Network.{Network}
use Rattle.filter_tokens.specs.declared.primitive.AddressLayer.{AddressLayer}
use Rattle.filter_tokens.specs.declared.primitive.AddressLayer.TheVariants as of
use Rattle.filter_tokens.specs.Networks.{address_bytes, address_width}
use Rattle.filter_tokens.specs.Values.{IsFamily, IsLeadingNumbers, IsLength, IsMask, IsNetworkText, mask_bytes}
use Rattle.packet_filter.proofs.DecidedLemmas.{Decided, Found, below_found, same_text_decided}
use Rattle.packet_filter.proofs.DecideNumberLemmas.{decimal_found, leading_found}

-- ---- addresses

-- The value of a text by a function that reads the start of it: a value if nothing is left.
module _ {A : Type 0} (Spells : List ℕ → A → Type 0) (read : List ℕ → Option (A × List ℕ))
    (sound : (text : List ℕ) (value : A) (rest : List ℕ) → read text ≡ Some (value, rest)
    → (prefix : List ℕ) × (text ≡ prefix ++ rest) × Spells prefix value)
    (complete : (text : List ℕ) (value : A) → Spells text value → read text ≡ Some (value, [])) where
  read_result : (text : List ℕ) (result : Option (A × List ℕ)) → read text ≡ result → Found (λ value. Spells text value)
  read_result text None is = inr (λ value stated.
      let clash : ◌≡◌ {A = Option (A × List ℕ)} None (Some (value, [])) = sym is ∙ complete text value stated in
      let never : ⊥ = cc in never)
  read_result text (Some (value, [])) is =
      let (prefix, split, spells) = sound text value [] is in
      inl (value, subst (λ t. Spells t value) (sym (split ∙ append-nil prefix)) spells)
  read_result text (Some (value, byte ∷ rest)) is = inr (λ value' stated.
      let clash : ◌≡◌ {A = Option (A × List ℕ)} (Some (value, byte ∷ rest)) (Some (value', [])) =
      sym is ∙ complete text value' stated in
      let left : byte ∷ rest ≡ [] = (same_parts value value' (byte ∷ rest) [] clash).1 in
      let never : ⊥ = cc in never)

  pub read_found : (text : List ℕ) → Found (λ value. Spells text value)
  read_found text = read_result text (read text) refl

dotted_found : (text : List ℕ) → Found (λ octets. IsDotted text octets)
dotted_found text =
    read_found IsDotted read_ipv4 (λ t octets rest is. read_ipv4_sound t octets rest is)
    (λ t octets is. ap read_ipv4 (sym (append-nil t)) ∙ read_ipv4_complete t octets [] is (lit≤ tt)) text

colon_hex_found : (text : List ℕ) → Found (λ segments. IsColonHex text segments)
colon_hex_found text =
    read_found IsColonHex read_ipv6 (λ t segments rest is. read_ipv6_sound t segments rest is)
    (λ t segments is. ap read_ipv6 (sym (append-nil t)) ∙ read_ipv6_complete t segments [] is EndsGroups-nil) text

pub ip_found : (text : List ℕ) → Found (λ address. IsIpText text address)
ip_found text = by_version (dotted_found text) (colon_hex_found text)
  where
    no_version : ((octets : List ℕ) → ¬ IsDotted text octets) → ((segments : List ℕ) → ¬ IsColonHex text segments)
        → (address : IpAddr) → ¬ IsIpText text address
    no_version no_v4 no_v6 (V4 address) is = no_v4 (ipv4_octets address) is
    no_version no_v4 no_v6 (V6 address) is = no_v6 (ipv6_segments address) is

    by_version : Found (λ octets. IsDotted text octets) → Found (λ segments. IsColonHex text segments)
        → Found (λ address. IsIpText text address)
    by_version (inl (octets, is)) d = inl (V4 (record { octets = octets }), is)
    by_version (inr no_v4) (inl (segments, is)) = inl (V6 (record { segments = segments }), is)
    by_version (inr no_v4) (inr no_v6) = inr (no_version no_v4 no_v6)

pub family_decided : (layer : AddressLayer) (address : IpAddr) → Decided (IsFamily layer address)
family_decided of.Any address = inl tt
family_decided of.Ipv4 (V4 address) = inl tt
family_decided of.Ipv4 (V6 address) = inr (λ is. is)
family_decided of.Arp (V4 address) = inl tt
family_decided of.Arp (V6 address) = inr (λ is. is)
family_decided of.Ipv6 (V4 address) = inr (λ is. is)
family_decided of.Ipv6 (V6 address) = inl tt

-- ---- networks

no_network : (text : List ℕ) → ((address : IpAddr) → ¬ IsIpText text address)
    → ((numbers : List ℕ) → ¬ IsLeadingNumbers text numbers) → (network : Network) → ¬ IsNetworkText text network
no_network text no_address no_numbers network (inl is) = no_address network.address is.0
no_network text no_address no_numbers network (inr is) = no_numbers is.0 is.2

pub network_found : (text : List ℕ) → Found (λ network. IsNetworkText text network)
network_found text = by_form (ip_found text) (leading_found text)
  where
    by_form : Found (λ address. IsIpText text address) → Found (λ numbers. IsLeadingNumbers text numbers)
        → Found (λ network. IsNetworkText text network)
    by_form (inl (address, is)) d =
        inl (record { address = address; bits = address_width address }, inl (is, refl))
    by_form (inr no_address) (inl (numbers, is)) =
        inl (
          record {
            address = V4 (record { octets = numbers ++ replicate (4 - length numbers) 0 });
            bits = 8 * length numbers;
          },
          inr (numbers, record { octets = numbers ++ replicate (4 - length numbers) 0 }, is, refl, refl, refl),
        )
    by_form (inr no_address) (inr no_numbers) = inr (no_network text no_address no_numbers)

-- ---- prefix lengths and masks

pub length_found : (address : IpAddr) (text : List ℕ) → Found (λ bits. IsLength address text bits)
length_found (V4 address) text = decimal_found 32 text (lit< tt)
length_found (V6 address) text = decimal_found 128 text (lit< tt)

pub mask_found : (address : IpAddr) (text : List ℕ) → Found (λ bits. IsMask address text bits)
mask_found (V6 address) text = inr (λ bits is. is)
mask_found (V4 address) text = by_address address (ip_found text)
  where
    by_bits : (address : Ipv4Addr) (mask : IpAddr) → IsIpText text mask
        → Found (λ n. (n < 33) × (address_bytes mask ≡ mask_bytes n)) → Found (λ bits. IsMask (V4 address) text bits)
    by_bits address mask is (inl (n, (below, same))) = inl (n, (mask, (is, omega (arith, below), same)))
    by_bits address mask is (inr none) = inr (λ bits present.
        let (mask', (is', small, same)) = present in
        none bits (
          omega (arith, small),
          subst (λ m. address_bytes m ≡ mask_bytes bits) (IsIpText_unique text mask' mask is' is) same,
        ))

    by_address : (address : Ipv4Addr) → Found (λ mask. IsIpText text mask)
        → Found (λ bits. IsMask (V4 address) text bits)
    by_address address (inr none) = inr (λ bits present. none present.0 present.1.0)
    by_address address (inl (mask, is)) =
        by_bits address mask is
        (below_found (λ n. address_bytes mask ≡ mask_bytes n)
        (λ n. same_text_decided (address_bytes mask) (mask_bytes n)) 33)
