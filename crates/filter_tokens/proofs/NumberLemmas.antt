-- Lemmas about addresses as big-endian numbers.
use Rattle.std.proofs.Common.{◌≡◌, ℕ, zero, suc, ◌+◌, ◌-◌, ◌*◌, ◌/◌, ◌%◌, ◌^◌, ◌<◌, ◌≤◌, min, ◌⊎◌, inl, inr, ⊎_elim, Bool, true, false, ◌==◌, List, [], ◌∷◌, length, refl, ap, sym, ◌∙◌, arith, mul_assoc, add-mul, eqb-true, eq-eqb}
use Rattle.std.specs.Int.{w32, w128, from_be_bytes}
use Rattle.std.specs.Str.{bytes_eq}
use Rattle.std.proofs.lemmas.Nat.{mod-mul-add, div-mul-add, pow-add, pow_pos}
use Rattle.std.proofs.Math.Nat.{min-eq_left, min-eq_right, mul-add-mod_self_right, mod-le, mod-eq_of_lt, mod-lt, mul-le-mul_right, pow-suc, div-add-mod'}
use Rattle.std.proofs.lemmas.Slice.Eq.{bytes_eq-Decides}
use Rattle.ep_base.specs.Bytes.{AreBytes}
use Rattle.filter_tokens.specs.Networks.{big_endian, bytes_of, kept_bits, network_bytes}

-- Four bytes as a number.
pub four_bytes : (bytes : List ℕ) → length bytes ≡ 4 → from_be_bytes w32 bytes ≡ big_endian bytes
four_bytes [] four = absurd (omega (arith, four))
four_bytes (a ∷ []) four = absurd (omega (arith, four))
four_bytes (a ∷ b ∷ []) four = absurd (omega (arith, four))
four_bytes (a ∷ b ∷ c ∷ []) four = absurd (omega (arith, four))
four_bytes (a ∷ b ∷ c ∷ d ∷ []) four = omega arith
four_bytes (a ∷ b ∷ c ∷ d ∷ e ∷ others) four = absurd (omega (arith, four))

-- Sixteen bytes as a number.
sixteen : (a b c d e f g h i j k l m n o p : ℕ)
    → from_be_bytes w128 (a ∷ b ∷ c ∷ d ∷ e ∷ f ∷ g ∷ h ∷ i ∷ j ∷ k ∷ l ∷ m ∷ n ∷ o ∷ p ∷ [])
    ≡ big_endian (a ∷ b ∷ c ∷ d ∷ e ∷ f ∷ g ∷ h ∷ i ∷ j ∷ k ∷ l ∷ m ∷ n ∷ o ∷ p ∷ [])
sixteen a b c d e f g h i j k l m n o p = omega arith

-- A number of bytes is below the power of its length.
pub below : (bytes : List ℕ) → AreBytes bytes → big_endian bytes < 256 ^ length bytes
below [] small = omega arith
below (byte ∷ bytes) small =
    let others : big_endian bytes < 256 ^ length bytes = below bytes (λ i. small (suc i)) in
    let more : (byte + 1) * 256 ^ length bytes ≤ 256 * 256 ^ length bytes =
    mul-le-mul_right (256 ^ length bytes) (omega (arith, small 0)) in
    omega (arith, others, more, pow-suc 256 (length bytes))

pub sixteen_bytes : (bytes : List ℕ) → length bytes ≡ 16 → from_be_bytes w128 bytes ≡ big_endian bytes
sixteen_bytes [] full = absurd (omega (arith, full))
sixteen_bytes (a ∷ []) full = absurd (omega (arith, full))
sixteen_bytes (a ∷ b ∷ []) full = absurd (omega (arith, full))
sixteen_bytes (a ∷ b ∷ c ∷ []) full = absurd (omega (arith, full))
sixteen_bytes (a ∷ b ∷ c ∷ d ∷ []) full = absurd (omega (arith, full))
sixteen_bytes (a ∷ b ∷ c ∷ d ∷ e ∷ []) full = absurd (omega (arith, full))
sixteen_bytes (a ∷ b ∷ c ∷ d ∷ e ∷ f ∷ []) full = absurd (omega (arith, full))
sixteen_bytes (a ∷ b ∷ c ∷ d ∷ e ∷ f ∷ g ∷ []) full = absurd (omega (arith, full))
sixteen_bytes (a ∷ b ∷ c ∷ d ∷ e ∷ f ∷ g ∷ h ∷ []) full = absurd (omega (arith, full))
sixteen_bytes (a ∷ b ∷ c ∷ d ∷ e ∷ f ∷ g ∷ h ∷ i ∷ []) full = absurd (omega (arith, full))
sixteen_bytes (a ∷ b ∷ c ∷ d ∷ e ∷ f ∷ g ∷ h ∷ i ∷ j ∷ []) full = absurd (omega (arith, full))
sixteen_bytes (a ∷ b ∷ c ∷ d ∷ e ∷ f ∷ g ∷ h ∷ i ∷ j ∷ k ∷ []) full = absurd (omega (arith, full))
sixteen_bytes (a ∷ b ∷ c ∷ d ∷ e ∷ f ∷ g ∷ h ∷ i ∷ j ∷ k ∷ l ∷ []) full = absurd (omega (arith, full))
sixteen_bytes (a ∷ b ∷ c ∷ d ∷ e ∷ f ∷ g ∷ h ∷ i ∷ j ∷ k ∷ l ∷ m ∷ []) full = absurd (omega (arith, full))
sixteen_bytes (a ∷ b ∷ c ∷ d ∷ e ∷ f ∷ g ∷ h ∷ i ∷ j ∷ k ∷ l ∷ m ∷ n ∷ []) full = absurd (omega (arith, full))
sixteen_bytes (a ∷ b ∷ c ∷ d ∷ e ∷ f ∷ g ∷ h ∷ i ∷ j ∷ k ∷ l ∷ m ∷ n ∷ o ∷ []) full = absurd (omega (arith, full))
sixteen_bytes (a ∷ b ∷ c ∷ d ∷ e ∷ f ∷ g ∷ h ∷ i ∷ j ∷ k ∷ l ∷ m ∷ n ∷ o ∷ p ∷ []) full =
    sixteen a b c d e f g h i j k l m n o p
sixteen_bytes (a ∷ b ∷ c ∷ d ∷ e ∷ f ∷ g ∷ h ∷ i ∷ j ∷ k ∷ l ∷ m ∷ n ∷ o ∷ p ∷ q ∷ others) full =
    absurd (omega (arith, full))

-- ---- prefixes

-- A byte without its lower bits is a byte.
kept_below : (bits byte : ℕ) → kept_bits bits byte ≤ byte
kept_below bits byte = omega arith

-- Bytes with bits set to 0 are as many bytes.
pub kept_length : (bits : ℕ) (bytes : List ℕ) → length (network_bytes bits bytes) ≡ length bytes
kept_length bits [] = refl
kept_length bits (byte ∷ bytes) = ap suc (kept_length (bits - 8) bytes)

pub kept_bytes : (bits : ℕ) (bytes : List ℕ) → AreBytes bytes → AreBytes (network_bytes bits bytes)
kept_bytes bits [] small i = small i
kept_bytes bits (byte ∷ bytes) small zero = omega (arith, small 0, kept_below (min bits 8) byte)
kept_bytes bits (byte ∷ bytes) small (suc i) = kept_bytes (bits - 8) bytes (λ k. small (suc k)) i

-- No bit is kept of a prefix of 0 bits.
none_kept : (bytes : List ℕ) → AreBytes bytes → big_endian (network_bytes 0 bytes) ≡ 0
none_kept [] small = refl
none_kept (byte ∷ bytes) small =
    omega (
      arith,
      ap (λ (kept : ℕ). kept * 256 ^ length (network_bytes 0 bytes)) (none_of byte (small 0)),
      none_kept bytes (λ i. small (suc i)),
    )
  where
    none_of : (byte : ℕ) → byte < 256 → kept_bits 0 byte ≡ 0
    none_of byte small = omega (arith, small)

-- All bits of a byte are kept of a longer prefix.
all_of : (bits byte : ℕ) → 8 ≤ bits → kept_bits (min bits 8) byte ≡ byte
all_of bits byte long =
    ap (λ (kept : ℕ). kept_bits kept byte) (min-eq_right long) ∙ omega arith

-- Of a shorter one the lower bits are set to 0.
sizes : (bits : ℕ) → bits < 8 → 256 / 2 ^ bits ≡ 2 ^ (8 - bits)
sizes zero few = refl
sizes (suc zero) few = refl
sizes (suc (suc zero)) few = refl
sizes (suc (suc (suc zero))) few = refl
sizes (suc (suc (suc (suc zero)))) few = refl
sizes (suc (suc (suc (suc (suc zero))))) few = refl
sizes (suc (suc (suc (suc (suc (suc zero)))))) few = refl
sizes (suc (suc (suc (suc (suc (suc (suc zero))))))) few = refl
sizes (suc (suc (suc (suc (suc (suc (suc (suc bits)))))))) few = absurd (omega (arith, few))

some_of : (bits byte : ℕ) → bits < 8 → kept_bits (min bits 8) byte ≡ byte - byte % 2 ^ (8 - bits)
some_of bits byte few =
    ap (λ (kept : ℕ). kept_bits kept byte) (min-eq_left (omega (arith, few)))
    ∙ ap (λ (size : ℕ). byte - byte % size) (sizes bits few)

-- 256 ^ n is 2 ^ (8 * n).
power : (n : ℕ) → 256 ^ n ≡ 2 ^ (8 * n)
power zero = refl
power (suc n) =
    pow-suc 256 n ∙ ap (λ (p : ℕ). p * 256) (power n) ∙ sym (pow-add 2 (8 * n) 8)
    ∙ ap (λ (k : ℕ). 2 ^ k) (omega arith)

-- If `low` divides `high`, adding a multiple of `high` leaves the remainder by `low`.
high_kept : (byte high rest low times : ℕ) → high ≡ times * low → (byte * high + rest) % low ≡ rest % low
high_kept byte high rest low times divides =
    ap (λ (above : ℕ). (above + rest) % low)
    (ap (λ (one : ℕ). byte * one) divides ∙ sym (mul_assoc byte times low))
    ∙ mul-add-mod_self_right (byte * times) low rest

-- Of a longer one the lower bits are those of the byte, and all that follow.
low_lost : (byte high rest size : ℕ) → rest < high → 1 ≤ size
    → (byte * high + rest) - (byte * high + rest) % (size * high) ≡ (byte - byte % size) * high
low_lost byte high rest size less some =
    let times = byte / size in
    let left = byte % size in
    let split : times * size + left ≡ byte = div-add-mod' byte size in
    let number : byte * high + rest ≡ times * (size * high) + (left * high + rest) =
    omega (arith, ap (λ (b : ℕ). b * high) (sym split), add-mul (times * size) left high, mul_assoc times size high) in
    let space : (left + 1) * high ≤ size * high = mul-le-mul_right high (omega (arith, mod-lt byte some)) in
    let small : left * high + rest < size * high = omega (arith, space, less, add-mul left 1 high) in
    let lost : (byte * high + rest) % (size * high) ≡ left * high + rest =
    ap (λ (n : ℕ). n % (size * high)) number ∙ mod-mul-add times (size * high) (left * high + rest) small in
    let kept : (byte - left) * high ≡ times * (size * high) =
    ap (λ (b : ℕ). b * high) (omega (arith, split)) ∙ mul_assoc times size high in
    omega (arith, number, lost, kept)

-- Of a prefix that goes on after a byte.
long_prefix : (bits byte : ℕ) (bytes : List ℕ) → AreBytes (byte ∷ bytes) → 8 ≤ bits
    → big_endian (network_bytes (bits - 8) bytes)
    ≡ big_endian bytes - big_endian bytes % 2 ^ (8 * length bytes - (bits - 8))
    → big_endian (network_bytes bits (byte ∷ bytes))
    ≡ big_endian (byte ∷ bytes) - big_endian (byte ∷ bytes) % 2 ^ (8 * suc (length bytes) - bits)
long_prefix bits byte bytes small long others =
    let high = 256 ^ length bytes in
    let low = 8 * length bytes - (bits - 8) in
    let divides : high ≡ 2 ^ (8 * length bytes - low) * 2 ^ low =
    power (length bytes) ∙ ap (λ (k : ℕ). 2 ^ k) (omega arith) ∙ pow-add 2 (8 * length bytes - low) low in
    let same : (byte * high + big_endian bytes) % 2 ^ (8 * suc (length bytes) - bits) ≡ big_endian bytes % 2 ^ low =
    ap (λ (k : ℕ). (byte * high + big_endian bytes) % 2 ^ k) (omega (arith, long))
    ∙ high_kept byte high (big_endian bytes) (2 ^ low) (2 ^ (8 * length bytes - low)) divides in
    let first : kept_bits (min bits 8) byte * 256 ^ length (network_bytes (bits - 8) bytes) ≡ byte * high =
    ap (λ (kept : ℕ). kept * 256 ^ length (network_bytes (bits - 8) bytes)) (all_of bits byte long)
    ∙ ap (λ (n : ℕ). byte * 256 ^ n) (kept_length (bits - 8) bytes) in
    let less : big_endian bytes % 2 ^ low ≤ big_endian bytes = mod-le (big_endian bytes) (2 ^ low) in
    omega (arith, first, others, same, less)

-- Of a prefix that ends in a byte.
short_prefix : (bits byte : ℕ) (bytes : List ℕ) → AreBytes (byte ∷ bytes) → bits < 8
    → big_endian (network_bytes bits (byte ∷ bytes))
    ≡ big_endian (byte ∷ bytes) - big_endian (byte ∷ bytes) % 2 ^ (8 * suc (length bytes) - bits)
short_prefix bits byte bytes small short =
    let high = 256 ^ length bytes in
    let size = 2 ^ (8 - bits) in
    let none : big_endian (network_bytes (bits - 8) bytes) ≡ 0 =
    ap (λ (left : ℕ). big_endian (network_bytes left bytes)) (omega (arith, short))
    ∙ none_kept bytes (λ i. small (suc i)) in
    let first : kept_bits (min bits 8) byte * 256 ^ length (network_bytes (bits - 8) bytes)
    ≡ (byte - byte % size) * high =
    ap (λ (kept : ℕ). kept * 256 ^ length (network_bytes (bits - 8) bytes)) (some_of bits byte short)
    ∙ ap (λ (n : ℕ). (byte - byte % size) * 256 ^ n) (kept_length (bits - 8) bytes) in
    let same : 2 ^ (8 * suc (length bytes) - bits) ≡ size * high =
    ap (λ (k : ℕ). 2 ^ k) (omega (arith, short)) ∙ pow-add 2 (8 - bits) (8 * length bytes)
    ∙ ap (λ (p : ℕ). size * p) (sym (power (length bytes))) in
    omega (
      arith,
      first,
      none,
      low_lost byte high (big_endian bytes) size (below bytes (λ i. small (suc i))) (pow_pos (8 - bits)),
    )
    ∙ ap (λ (p : ℕ). big_endian (byte ∷ bytes) - big_endian (byte ∷ bytes) % p) (sym same)

pub sides : (m n : ℕ) → (m < n) ⊎ (n ≤ m)
sides m zero = inr (omega arith)
sides zero (suc n) = inl (omega arith)
sides (suc m) (suc n) = ⊎_elim (λ less. inl (omega (arith, less))) (λ more. inr (omega (arith, more))) (sides m n)

-- Setting the bits after a prefix to 0 takes away the remainder by a power of two.
pub prefix_number : (bits : ℕ) (bytes : List ℕ) → AreBytes bytes
    → big_endian (network_bytes bits bytes) ≡ big_endian bytes - big_endian bytes % 2 ^ (8 * length bytes - bits)
prefix_number bits [] small = omega arith
prefix_number bits (byte ∷ bytes) small =
    ⊎_elim (λ short. short_prefix bits byte bytes small short)
    (λ long. long_prefix bits byte bytes small long (prefix_number (bits - 8) bytes (λ i. small (suc i))))
    (sides bits 8)

-- ---- equal addresses

-- Bytes of equal length are equal where their numbers are.
heads : (a b high x y : ℕ) → x < high → y < high → a * high + x ≡ b * high + y → (a ≡ b) × (x ≡ y)
heads a b high x y less_x less_y same =
    let some : 1 ≤ high = omega (arith, less_x) in
    let first : a ≡ b =
    sym (div-mul-add a high x less_x) ∙ ap (λ (n : ℕ). n / high) same ∙ div-mul-add b high y less_y in
    (first, omega (arith, same, ap (λ (n : ℕ). n * high) first))

pub same_bytes : (xs ys : List ℕ) → AreBytes xs → AreBytes ys → length xs ≡ length ys
    → big_endian xs ≡ big_endian ys → xs ≡ ys
same_bytes [] [] small_x small_y long same = refl
same_bytes [] (y ∷ ys) small_x small_y long same = absurd (omega (arith, long))
same_bytes (x ∷ xs) [] small_x small_y long same = absurd (omega (arith, long))
same_bytes (x ∷ xs) (y ∷ ys) small_x small_y long same =
    let lengths : length xs ≡ length ys = omega (arith, long) in
    let power : 256 ^ length xs ≡ 256 ^ length ys = ap (λ (n : ℕ). 256 ^ n) lengths in
    let parts : (x ≡ y) × (big_endian xs ≡ big_endian ys) =
    heads x y (256 ^ length xs) (big_endian xs) (big_endian ys) (below xs (λ i. small_x (suc i)))
    (omega (arith, below ys (λ i. small_y (suc i)), power))
    (same ∙ ap (λ (p : ℕ). y * p + big_endian ys) (sym power)) in
    let others : xs ≡ ys = same_bytes xs ys (λ i. small_x (suc i)) (λ i. small_y (suc i)) lengths parts.1 in
    λ i. parts.0 i ∷ others i

-- Bytes of different lengths are not equal.
pub not_true : (b : Bool) → (b ≡ true → ⊥) → b ≡ false
not_true true never = absurd (never refl)
not_true false never = refl

alike : (a b : Bool) → (a ≡ true → b ≡ true) → (b ≡ true → a ≡ true) → a ≡ b
alike true b to from = sym (to refl)
alike false true to from = from refl
alike false false to from = refl

pub other_length : (xs ys : List ℕ) → (length xs ≡ length ys → ⊥) → bytes_eq xs ys ≡ false
other_length xs ys differ = not_true (bytes_eq xs ys) (λ is. differ (ap length ((bytes_eq-Decides xs ys).0 is)))

-- Bytes of equal length are equal where their numbers are.
pub equal_numbers : (xs ys : List ℕ) → AreBytes xs → AreBytes ys → length xs ≡ length ys
    → bytes_eq xs ys ≡ (big_endian xs == big_endian ys)
equal_numbers xs ys small_x small_y long =
    alike _ _ (λ is. eq-eqb _ _ (ap big_endian ((bytes_eq-Decides xs ys).0 is)))
    (λ is. (bytes_eq-Decides xs ys).1 (same_bytes xs ys small_x small_y long (eqb-true _ _ is)))

-- ---- networks

-- Whether a network contains an address, by their numbers.
pub within : (bits : ℕ) (address network : List ℕ) → AreBytes address → AreBytes network
    → length address ≡ length network
    → bytes_eq (network_bytes bits address) network
    ≡ (big_endian address - big_endian address % 2 ^ (8 * length address - bits) == big_endian network)
within bits address network small_a small_n long =
    equal_numbers (network_bytes bits address) network (kept_bytes bits address small_a) small_n
    (kept_length bits address ∙ long)
    ∙ ap (λ (n : ℕ). n == big_endian network) (prefix_number bits address small_a)

-- Whether the number of an address, without its lower bits, is the number of a network.
pub within_numbers : (bits width number other : ℕ) (address network : List ℕ) → AreBytes address → AreBytes network
    → length address ≡ length network → width ≡ 8 * length address
    → number ≡ big_endian address → other ≡ big_endian network
    → (number - number % 2 ^ (width - bits) == other) ≡ bytes_eq (network_bytes bits address) network
within_numbers bits width number other address network small_a small_n long wide number_is other_is =
    ap (λ (n : ℕ). n - n % 2 ^ (width - bits) == other) number_is
    ∙ ap (λ (w : ℕ). big_endian address - big_endian address % 2 ^ (w - bits) == other) wide
    ∙ ap (λ (n : ℕ). big_endian address - big_endian address % 2 ^ (8 * length address - bits) == n) other_is
    ∙ sym (within bits address network small_a small_n long)

-- A network contains no address of another length.
pub within_other : (bits : ℕ) (address network : List ℕ) → (length address ≡ length network → ⊥)
    → false ≡ bytes_eq (network_bytes bits address) network
within_other bits address network differ =
    sym (other_length (network_bytes bits address) network (λ same. differ (sym (kept_length bits address) ∙ same)))

-- A prefix of 0 bits is 0.
pub zero_prefix : (bits width address network : ℕ) → bits ≡ 0 → address < 2 ^ width
    → (network == 0) ≡ (address - address % 2 ^ (width - bits) == network)
zero_prefix bits width address network none less =
    let nothing : address - address % 2 ^ (width - bits) ≡ 0 =
    let same : width - bits ≡ width = omega (arith, none) in
    omega (arith, ap (λ (k : ℕ). address % 2 ^ k) same, mod-eq_of_lt less) in
    alike _ _ (λ is. eq-eqb _ _ (nothing ∙ sym (eqb-true _ _ is)))
    (λ is. eq-eqb _ _ (sym (eqb-true _ _ is) ∙ nothing))

-- The number of an address fits its width.
pub fits : (width number : ℕ) (address : List ℕ) → AreBytes address → width ≡ 8 * length address
    → number ≡ big_endian address → number < 2 ^ width
fits width number address small wide is =
    omega (
      arith,
      is,
      below address small,
      power (length address),
      ap (λ (k : ℕ). 2 ^ k) wide,
    )

-- ---- numbers as bytes

pub bytes_length : (len number : ℕ) → length (bytes_of len number) ≡ len
bytes_length zero number = refl
bytes_length (suc len) number = ap suc (bytes_length len (number % 256 ^ len))

-- The number of bytes has these bytes.
pub bytes_back : (bytes : List ℕ) → AreBytes bytes → bytes_of (length bytes) (big_endian bytes) ≡ bytes
bytes_back [] small = refl
bytes_back (byte ∷ bytes) small =
    let less : big_endian bytes < 256 ^ length bytes = below bytes (λ i. small (suc i)) in
    let first : (byte * 256 ^ length bytes + big_endian bytes) / 256 ^ length bytes ≡ byte =
    div-mul-add byte (256 ^ length bytes) (big_endian bytes) less in
    let left : (byte * 256 ^ length bytes + big_endian bytes) % 256 ^ length bytes ≡ big_endian bytes =
    mod-mul-add byte (256 ^ length bytes) (big_endian bytes) less in
    let others : bytes_of (length bytes) ((byte * 256 ^ length bytes + big_endian bytes) % 256 ^ length bytes) ≡ bytes =
    ap (λ (n : ℕ). bytes_of (length bytes) n) left ∙ bytes_back bytes (λ i. small (suc i)) in
    λ i. first i ∷ others i

-- The bytes of a number have this number.
pub number_back : (len number : ℕ) → big_endian (bytes_of (suc len) number) ≡ number
number_back zero number = omega arith
number_back (suc len) number =
    omega (
      arith,
      number_back len (number % 256 ^ suc len),
      ap (λ (n : ℕ). number / 256 ^ suc len * 256 ^ n) (bytes_length (suc len) (number % 256 ^ suc len)),
      div-add-mod' number (256 ^ suc len),
    )

-- An address has the bytes of a number where it has that number.
pub number_of_address : (width number : ℕ) (address : List ℕ) → (width ≡ 4) ⊎ (width ≡ 16) → AreBytes address
    → length address ≡ width → bytes_eq address (bytes_of width number) ≡ (number == big_endian address)
number_of_address width number address wide small long =
    let back : big_endian (bytes_of width number) ≡ number =
    ⊎_elim
    (λ is. ap (λ (w : ℕ). big_endian (bytes_of w number)) is ∙ number_back 3 number)
    (λ is. ap (λ (w : ℕ). big_endian (bytes_of w number)) is ∙ number_back 15 number) wide in
    let same : bytes_of width (big_endian address) ≡ address =
    ap (λ (w : ℕ). bytes_of w (big_endian address)) (sym long) ∙ bytes_back address small in
    alike _ _
    (λ is. eq-eqb _ _ (sym back ∙ sym (ap big_endian ((bytes_eq-Decides address (bytes_of width number)).0 is))))
    (λ is. (bytes_eq-Decides address (bytes_of width number)).1
    (sym (ap (λ (n : ℕ). bytes_of width n) (eqb-true _ _ is) ∙ same)))

-- ---- hosts

all_kept : (bits : ℕ) (bytes : List ℕ) → 8 * length bytes ≤ bits → network_bytes bits bytes ≡ bytes
all_kept bits [] long = refl
all_kept bits (byte ∷ bytes) long =
    let first : kept_bits (min bits 8) byte ≡ byte = all_of bits byte (omega (arith, long)) in
    let others : network_bytes (bits - 8) bytes ≡ bytes = all_kept (bits - 8) bytes (omega (arith, long)) in
    λ i. first i ∷ others i

-- A host has one address.
pub host_address : (width bits : ℕ) (address host : List ℕ) → length host ≡ width → 8 * width ≤ bits → AreBytes host
    → bytes_eq (network_bytes bits address) host ≡ bytes_eq address (bytes_of width (big_endian host))
host_address width bits address host long all small =
    let back : bytes_of width (big_endian host) ≡ host =
    ap (λ (w : ℕ). bytes_of w (big_endian host)) (sym long) ∙ bytes_back host small in
    alike _ _
    (λ is.
    let same : network_bytes bits address ≡ host = (bytes_eq-Decides (network_bytes bits address) host).0 is in
    let lengths : length address ≡ width = sym (kept_length bits address) ∙ ap length same ∙ long in
    (bytes_eq-Decides address (bytes_of width (big_endian host))).1
    (sym (all_kept bits address (omega (arith, lengths, all))) ∙ same ∙ sym back))
    (λ is.
    let same : address ≡ host = (bytes_eq-Decides address (bytes_of width (big_endian host))).0 is ∙ back in
    (bytes_eq-Decides (network_bytes bits address) host).1
    (all_kept bits address (omega (arith, ap length same, long, all)) ∙ same))
