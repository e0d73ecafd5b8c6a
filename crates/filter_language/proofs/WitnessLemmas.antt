-- A value of each head: an address, a network, a port or a number that can follow qualifiers.
use Rattle.std.proofs.Common.{◌≡◌, ℕ, ◌*◌, ◌-◌, ◌<◌, ◌≤◌, min, inl, inr, true, List, [], ◌∷◌, ◌++◌, length, replicate, codes, decimal, refl, ap, ap₂, sym, ◌∙◌, subst, length-append, arith, lit<, lit≤}
use Rattle.std.specs.Net.Addr.{ipv6_segments, octets_of}
use Rattle.std.specs.Net.Grammar.{IsColonHex, IsIpText}
use Rattle.std.specs.declared.net.ip_addr.IpAddr.{IpAddr}
use Rattle.std.specs.declared.net.ip_addr.IpAddr.TheVariants.{V4, V6}
use Rattle.std.specs.declared.net.ipv4_addr.Ipv4Addr.{Ipv4Addr}
use Rattle.std.specs.declared.net.ipv6_addr.Ipv6Addr.{Ipv6Addr}
use Rattle.std.proofs.lemmas.Fmt.{decimal_digit}
use Rattle.std.proofs.lemmas.List.{length-replicate}
use Rattle.std.proofs.lemmas.Slice.Eq.{bytes_eq-Decides}
use Rattle.filter_tokens.specs.declared.network.Network.{Network}
use Rattle.filter_tokens.specs.declared.primitive.AddressLayer.{AddressLayer}
use Rattle.filter_tokens.specs.declared.primitive.AddressLayer.TheVariants as of
use Rattle.filter_tokens.specs.declared.primitive.Primitive.{Primitive}
use Rattle.filter_tokens.specs.declared.primitive.Primitive.TheVariants as primitive
use Rattle.filter_tokens.specs.declared.primitive.Width.TheVariants.{One}
use Rattle.filter_tokens.specs.Networks.{address_bytes, address_width, has_no_host_bits, kept_bits, network_bytes}
use Rattle.filter_tokens.specs.Values.{IsConstant, IsFamily, IsLeadingNumbers, IsLength, IsMask, IsNetworkText, IsNumberText, IsPortText, IsSizeText, IsStation, most_number}
use Rattle.filter_language.specs.declared.head.Head.{Head}
use Rattle.filter_language.specs.declared.head.Head.TheVariants as head
use Rattle.filter_language.specs.Grammar.{IsWordValue}

-- ---- numbers

pub zero_number : (most : ℕ) → IsNumberText most (codes "0") 0
zero_number most = inl (sym (decimal_digit 0 (lit< tt)), omega arith)

pub zero_constant : IsConstant (codes "0") 0
zero_constant = inr (refl, zero_number most_number)

zero_port : IsPortText (codes "0") 0
zero_port = inr (refl, zero_number 65535)

pub one_size : IsSizeText (codes "1") One
one_size = inl (sym (decimal_digit 1 (lit< tt)), lit≤ tt)

-- ---- addresses

abbrev zero_v4 : Ipv4Addr
zero_v4 = record { octets = 0 ∷ 0 ∷ 0 ∷ 0 ∷ [] }

abbrev zero_v6 : Ipv6Addr
zero_v6 = record { segments = 0 ∷ 0 ∷ 0 ∷ 0 ∷ 0 ∷ 0 ∷ 0 ∷ 0 ∷ [] }

v4_text : (a b c d : ℕ) → a < 256 → b < 256 → c < 256 → d < 256
    → (text : List ℕ) × IsIpText text (V4 (record { octets = a ∷ b ∷ c ∷ d ∷ [] }))
v4_text a b c d a_fits b_fits c_fits d_fits = (
  decimal a ++ codes "." ++ decimal b ++ codes "." ++ decimal c ++ codes "." ++ decimal d,
  record {
    a = a;
    b = b;
    c = c;
    d = d;
    fit = (a_fits, b_fits, c_fits, d_fits);
    value = refl;
    spelled = refl;
  },
)

v6_text : IsIpText (codes "::") (V6 (record { segments = 0 ∷ 0 ∷ 0 ∷ 0 ∷ 0 ∷ 0 ∷ 0 ∷ 0 ∷ [] }))
v6_text = inr (record {
  head_text = [];
  tail_text = [];
  head = [];
  tail = [];
  spelled = refl;
  head_groups = refl;
  tail_groups = refl;
  room = lit< tt;
  value = refl;
})

-- An address of each layer.
address_of : (layer : AddressLayer)
    → (text : List ℕ) × (address : IpAddr) × IsIpText text address × IsFamily layer address
address_of of.Any =
    let (text, is) = v4_text 0 0 0 0 (lit< tt) (lit< tt) (lit< tt) (lit< tt) in (text, V4 zero_v4, is, tt)
address_of of.Ipv4 =
    let (text, is) = v4_text 0 0 0 0 (lit< tt) (lit< tt) (lit< tt) (lit< tt) in (text, V4 zero_v4, is, tt)
address_of of.Arp =
    let (text, is) = v4_text 0 0 0 0 (lit< tt) (lit< tt) (lit< tt) (lit< tt) in (text, V4 zero_v4, is, tt)
address_of of.Ipv6 = (codes "::", V6 zero_v6, v6_text, tt)

-- ---- values

station : IsStation (codes "0:0:0:0:0:0") (0 ∷ 0 ∷ 0 ∷ 0 ∷ 0 ∷ 0 ∷ [])
station = (
  (
    codes "0",
    codes "0:0:0:0:0",
    refl,
    ((lit< tt, (lit< tt, tt)), lit≤ tt, refl),
    (
      codes "0",
      codes "0:0:0:0",
      refl,
      ((lit< tt, (lit< tt, tt)), lit≤ tt, refl),
      (
        codes "0",
        codes "0:0:0",
        refl,
        ((lit< tt, (lit< tt, tt)), lit≤ tt, refl),
        (
          codes "0",
          codes "0:0",
          refl,
          ((lit< tt, (lit< tt, tt)), lit≤ tt, refl),
          (
            codes "0",
            codes "0",
            refl,
            ((lit< tt, (lit< tt, tt)), lit≤ tt, refl),
            ((lit< tt, (lit< tt, tt)), lit≤ tt, refl),
          ),
        ),
      ),
    ),
  ),
  refl,
)

-- A value of each head, which is one word.
pub value_of : (h : Head) → (text : List ℕ) × (p : Primitive) × IsWordValue h text p
value_of (head.Host layer side) =
    let (text, address, is, family) = address_of layer in (
      text,
      primitive.Address layer side (record { address = address; bits = address_width address }),
      (is, refl, family, refl, refl),
    )
value_of (head.Net layer side) =
    let (text, address, is, family) = address_of layer in (
      text,
      primitive.Address layer side (record { address = address; bits = address_width address }),
      (inl (is, refl), family, refl, refl),
    )
value_of (head.Station side) =
    (codes "0:0:0:0:0:0", primitive.Station side (0 ∷ 0 ∷ 0 ∷ 0 ∷ 0 ∷ 0 ∷ []), (station, refl))
value_of (head.Port ports side) = (codes "0", primitive.Port ports side 0 0, (zero_port, refl, refl, refl))
value_of (head.PortRange ports side) =
    (codes "0", primitive.Port ports side 0 0, (inl ((sym (decimal_digit 0 (lit< tt)), lit≤ tt), refl), refl, refl))
value_of (head.Protocol ip) = (codes "0", primitive.Protocol ip (record { 0 = 0 }), (zero_number 255, refl))
value_of head.EtherType =
    (decimal 2048, primitive.EtherType (record { 0 = 2048 }), (inl (refl, lit≤ tt), lit≤ tt))

-- ---- prefixes of all bits

all_kept : (byte : ℕ) → kept_bits 8 byte ≡ byte
all_kept byte = omega arith

all_bits : (bits : ℕ) (bytes : List ℕ) → 8 * length bytes ≤ bits → network_bytes bits bytes ≡ bytes
all_bits bits [] fits = refl
all_bits bits (byte ∷ bytes) fits =
    let eight : min bits 8 ≡ 8 = omega (arith, fits) in
    ap₂ (λ first rest. first ∷ rest) (ap (λ kept. kept_bits kept byte) eight ∙ all_kept byte)
    (all_bits (bits - 8) bytes (omega (arith, fits)))

octets_length : (segments : List ℕ) → length (octets_of segments) ≡ 2 * length segments
octets_length [] = refl
octets_length (s ∷ segments) = omega (arith, octets_length segments)

-- An IPv6 address has eight segments.
pub segments_length : (text segments : List ℕ) → IsColonHex text segments → length segments ≡ 8
segments_length text segments (inl full) = full.1
segments_length text segments (inr elided) =
    let missing : ℕ = 8 - length elided.head - length elided.tail in
    let zeros : List ℕ = replicate missing 0 in
    omega (
      arith,
      elided.room,
      ap length elided.value,
      length-append (elided.head ++ zeros) elided.tail,
      length-append elided.head zeros,
      length-replicate {A = ℕ} missing 0,
    )

text_length : (text : List ℕ) (address : IpAddr) → IsIpText text address
    → 8 * length (address_bytes address) ≡ address_width address
text_length text (V4 address) is = omega (arith, ap length is.value)
text_length text (V6 address) is =
    omega (arith, octets_length (ipv6_segments address), segments_length text (ipv6_segments address) is)

leading_length : (text numbers : List ℕ) → IsLeadingNumbers text numbers → length numbers ≤ 3
leading_length text (a ∷ []) is = lit≤ tt
leading_length text (a ∷ b ∷ []) is = lit≤ tt
leading_length text (a ∷ b ∷ c ∷ []) is = lit≤ tt
leading_length text _ is = absurd is

network_length : (text : List ℕ) (network : Network) → IsNetworkText text network
    → 8 * length (address_bytes network.address) ≡ address_width network.address
network_length text network (inl is) = text_length text network.address is.0
network_length text network (inr (numbers, address, leading, bits_is, address_is, octets_are)) =
    subst (λ found. 8 * length (address_bytes found) ≡ address_width found) (sym address_is)
    (omega (
      arith,
      ap length octets_are,
      length-append numbers (replicate (4 - length numbers) 0),
      length-replicate {A = ℕ} (4 - length numbers) 0,
      leading_length text numbers leading,
    ))

-- All bits of an address are a prefix without bits after it.
pub all_are_prefix : (text : List ℕ) (address : IpAddr) (bits : ℕ)
    → IsNetworkText text (record { address = address; bits = bits })
    → has_no_host_bits (record { address = address; bits = address_width address }) ≡ true
all_are_prefix text address bits is =
    (bytes_eq-Decides (network_bytes (address_width address) (address_bytes address)) (address_bytes address)).1
    (all_bits (address_width address) (address_bytes address)
    (omega (arith, network_length text (record { address = address; bits = bits }) is)))

pub all_bits_length : (address : IpAddr) → IsLength address (decimal (address_width address)) (address_width address)
all_bits_length address = (refl, omega arith)

-- The mask of all bits.
pub all_bits_mask : (address : Ipv4Addr) → (text : List ℕ) × IsMask (V4 address) text 32
all_bits_mask address =
    let (text, is) = v4_text 255 255 255 255 (lit< tt) (lit< tt) (lit< tt) (lit< tt) in
    (text, (V4 (record { octets = 255 ∷ 255 ∷ 255 ∷ 255 ∷ [] }), (is, lit≤ tt, refl)))
