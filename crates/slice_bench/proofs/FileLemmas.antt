-- The first frame of a file.
use Rattle.std.proofs.Common.{◌≡◌, ℕ, ◌<◌, ◌≤◌, ◌+◌, ◌-◌, ◌^◌, List, [], ◌∷◌, ◌++◌, length, take, drop, sym, refl, ap, subst, ◌∙◌, inl, inr, arith}
use Rattle.std.proofs.Math.Seq.{take-append_seam, drop-append_seam}
use Rattle.std.proofs.lemmas.Bool.{cases_lt}
use Rattle.std.proofs.lemmas.List.{get_or-take, get_or_past, length-take, length-take-le, length-drop, take_all}
use Rattle.std.proofs.lemmas.List.{take-append-drop}
use Rattle.std.proofs.lemmas.Nat.{from_le_bytes-to_le_bytes_4, le_bytes_4}
use Rattle.std.specs.Int.{w32, from_le_bytes, to_le_bytes}
use Rattle.etherparse.specs.Bytes.{AreBytes}
use Rattle.slice_bench.specs.Files.{HoldsFrames, StartsWith}

-- Equal lists with prefixes of equal length have equal prefixes and equal rests.
same_parts : (a b x y : List ℕ) → length a ≡ length b → a ++ x ≡ b ++ y → (a ≡ b) × (x ≡ y)
same_parts a b x y len same = (
  sym (take-append_seam a x) ∙ ap (take (length a)) same ∙ ap (λ (n : ℕ). take n (b ++ y)) len ∙ take-append_seam b y,
  sym (drop-append_seam a x) ∙ ap (drop (length a)) same ∙ ap (λ (n : ℕ). drop n (b ++ y)) len ∙ drop-append_seam b y,
)

-- The first n bytes of bytes are bytes.
AreBytes-take : (n : ℕ) (bytes : List ℕ) → AreBytes bytes → AreBytes (take n bytes)
AreBytes-take n bytes fits i =
    elim (cases_lt i n) [
      | inl within ↦ rw (get_or-take n bytes i 0 within) (fits i)
      | inr past ↦ rw (get_or_past (take n bytes) i 0 (omega (arith, length-take n bytes))) (omega arith)
    ]

-- Bytes start with at most one frame.
pub one_frame : (bytes a b x y : List ℕ) → StartsWith bytes a x → StartsWith bytes b y → (a ≡ b) × (x ≡ y)
one_frame bytes a b x y (fits_a, is_a) (fits_b, is_b) =
    let fields =
    same_parts (to_le_bytes w32 (length a)) (to_le_bytes w32 (length b)) (a ++ x) (b ++ y) refl (sym is_a ∙ is_b) in
    let lengths : length a ≡ length b =
    sym (from_le_bytes-to_le_bytes_4 (length a) fits_a) ∙ ap (from_le_bytes w32) fields.0
    ∙ from_le_bytes-to_le_bytes_4 (length b) fits_b in
    same_parts a b x y lengths fields.1

-- The bytes after the first frame are the other frames of the file.
pub frames_after : (bytes frame after : List ℕ) (more : List (List ℕ)) → StartsWith bytes frame after
    → HoldsFrames bytes more → (others : List (List ℕ)) × HoldsFrames after others
frames_after bytes frame after [] starts holds = absurd (omega (arith, ap length (sym holds ∙ starts.1)))
frames_after bytes frame after (first ∷ others) starts holds =
    (others, subst (λ r. HoldsFrames r others) (one_frame bytes first frame holds.0 after holds.1 starts).1 holds.2)

-- Non-empty bytes that start with no frame are not the bytes of a list of frames.
pub no_frames : (bytes : List ℕ) (frames : List (List ℕ)) → 0 < length bytes
    → ((frame rest : List ℕ) → StartsWith bytes frame rest → ⊥) → HoldsFrames bytes frames → ⊥
no_frames bytes [] some none holds = omega (arith, some, ap length holds)
no_frames bytes (frame ∷ frames) some none holds = none frame holds.0 holds.1

-- If the first four bytes state the length of a frame, and the rest has at least that many bytes, the bytes start with
-- the frame.
pub first_frame : (bytes field rest : List ℕ) (len : ℕ) → AreBytes bytes
    → field ≡ take 4 bytes → rest ≡ drop 4 bytes → length rest + 4 ≡ length bytes → len ≡ from_le_bytes w32 field
    → len < 2 ^ 32 → len ≤ length rest → StartsWith bytes (take len rest) (take (length rest - len) (drop len rest))
first_frame bytes field rest len below field_is rest_is lens len_is small fits =
    let count : length (take len rest) ≡ len = length-take-le len rest fits in
    let four : length field ≡ 4 = ap length field_is ∙ length-take-le 4 bytes (omega (arith, lens)) in
    let each : AreBytes field = rw field_is (AreBytes-take 4 bytes below) in
    let back : take (length rest - len) (drop len rest) ≡ drop len rest =
    take_all (length rest - len) (drop len rest) (omega (arith, length-drop len rest)) in (
      rw count small,
      sym (take-append-drop 4 bytes) ∙ ap (λ start. start ++ drop 4 bytes) (sym field_is)
          ∙ ap (λ tail. field ++ tail) (sym rest_is)
          ∙ ap (λ start. start ++ rest) (sym (le_bytes_4 field len four each len_is))
          ∙ ap (λ n. to_le_bytes w32 n ++ rest) (sym count)
          ∙ ap (λ tail. to_le_bytes w32 (length (take len rest)) ++ tail)
          (sym (take-append-drop len rest) ∙ ap (λ tail. take len rest ++ tail) (sym back)),
    )
