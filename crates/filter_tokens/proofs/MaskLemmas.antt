-- Lemmas about masks of IPv4.
use Rattle.std.proofs.Common.{◌≡◌, ℕ, zero, suc, ◌*◌, ◌<◌, ◌≤◌, Bool, true, false, ◌&&◌, ◌==◌, ◌-◌, ◌⊎◌, inl, inr, ⊎_elim, eq-or-lt_of_le, le_of_suc-le-suc, List, [], ◌∷◌, ◌++◌, length, replicate}
use Rattle.std.proofs.Common.{refl, ap, ◌∙◌, sym, arith, bytes_eq, count_ones, sum_by, eqb-true, length-append}
use Rattle.std.specs.Int.Count.{ones}
use Rattle.std.specs.Net.Addr.{ipv4_octets, ipv6_segments, octets_of}
use Rattle.std.specs.Net.Grammar.{IsColonHex, IsIpv4Text}
use Rattle.std.specs.declared.net.ip_addr.IpAddr.{IpAddr}
use Rattle.std.specs.declared.net.ip_addr.IpAddr.TheVariants.{V4, V6}
use Rattle.std.specs.declared.net.ipv4_addr.Ipv4Addr.{Ipv4Addr}
use Rattle.std.proofs.NetLemmas.Theorems.{IsIpText_unique}
use Rattle.std.proofs.lemmas.Slice.Eq.{bytes_eq-Decides}
use Rattle.filter_tokens.specs.Networks.{address_bytes}
use Rattle.filter_tokens.specs.Values.{IsMaskOf, mask_bytes}

-- A test that holds of all numbers below a bound.
abbrev pub holds_below : (ℕ → Bool) → ℕ → Bool
holds_below test zero = true
holds_below test (suc n) = test n && holds_below test n

both : (a b : Bool) → (a && b) ≡ true → (a ≡ true) × (b ≡ true)
both true b is = (refl, is)
both false b is = let never : ⊥ = cc in absurd never

last : (n k : ℕ) → k < suc n → (k < n) ⊎ (k ≡ n)
last n k below = ⊎_elim (λ same. inr same) (λ less. inl less) (eq-or-lt_of_le (le_of_suc-le-suc below))

holds_at : (test : ℕ → Bool) (n k : ℕ) → holds_below test n ≡ true → k < n → test k ≡ true
holds_at test zero k all below = absurd (omega (arith, below))
holds_at test (suc n) k all below =
    let (here, others) = both (test n) (holds_below test n) all in
    ⊎_elim (λ less. holds_at test n k others less) (λ same. ap test same ∙ here) (last n k below)

-- The number of ones of a mask is its length.
pub mask_ones : (bits : ℕ) → bits ≤ 32 → sum_by count_ones (mask_bytes bits) ≡ bits
unfolding ones
mask_ones bits small =
    eqb-true _ _ (holds_at (λ b. sum_by count_ones (mask_bytes b) == b) 33 bits refl (omega (arith, small)))

octets_length : (segments : List ℕ) → length (octets_of segments) ≡ 2 * length segments
octets_length [] = refl
octets_length (s ∷ segments) = omega (arith, octets_length segments)

length_replicate : (n : ℕ) → length {A = ℕ} (replicate n 0) ≡ n
length_replicate zero = refl
length_replicate (suc n) = ap suc (length_replicate n)

eight : (text segments : List ℕ) → IsColonHex text segments → length segments ≡ 8
eight text segments (inl full) = full.1
eight text segments (inr elided) =
    let zeros : List ℕ = replicate (8 - length elided.head - length elided.tail) 0 in
    omega (
      arith,
      ap length elided.value,
      length-append (elided.head ++ zeros) elided.tail,
      length-append elided.head zeros,
      length_replicate (8 - length elided.head - length elided.tail),
      elided.room,
    )

-- A text that is no IPv4 address is no mask.
pub no_mask : (text : List ℕ) → ((a : Ipv4Addr) → IsIpv4Text text a → ⊥) → (mask : IpAddr) (bits : ℕ)
    → IsMaskOf text mask bits → ⊥
no_mask text none (V4 m) bits stated = none m stated.0
no_mask text none (V6 m) bits stated =
    let four : length (octets_of (ipv6_segments m)) ≡ 4 = ap length stated.2 in
    omega (arith, four, octets_length (ipv6_segments m), eight text (ipv6_segments m) stated.0)

-- The length of a mask is the number of its ones.
pub mask_is : (text : List ℕ) (m : Ipv4Addr) (n : ℕ) → IsIpv4Text text m → n ≡ sum_by count_ones (ipv4_octets m)
    → (mask : IpAddr) (bits : ℕ) → IsMaskOf text mask bits → (n ≡ bits) × (mask_bytes bits ≡ ipv4_octets m)
mask_is text m n present count mask bits stated =
    let same : mask ≡ V4 m = IsIpText_unique text mask (V4 m) stated.0 present in
    let bytes : mask_bytes bits ≡ ipv4_octets m = sym stated.2 ∙ ap address_bytes same in
    (count ∙ ap (sum_by count_ones) (sym bytes) ∙ mask_ones bits stated.1, bytes)

pub mask_equals : (n : ℕ) (octets : List ℕ) → bytes_eq (mask_bytes n) octets ≡ true → octets ≡ mask_bytes n
mask_equals n octets is = sym ((bytes_eq-Decides (mask_bytes n) octets).0 is)

pub mask_differs : (n bits : ℕ) (octets : List ℕ) → bytes_eq (mask_bytes n) octets ≡ false → n ≡ bits
    → mask_bytes bits ≡ octets → ⊥
mask_differs n bits octets fails same is =
    let holds = (bytes_eq-Decides (mask_bytes n) octets).1 (ap mask_bytes same ∙ is) in
    let clash : true ≡ false = sym holds ∙ fails in cc
