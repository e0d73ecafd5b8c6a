-- The iterator over the bytes of TCP options, and written options read back.
use Rattle.std.proofs.Common.{◌≡◌, ℕ, zero, suc, ◌+◌, ◌-◌, ◌*◌, ◌≤◌, List, [], ◌∷◌, ◌++◌, length, map, replicate, Option, Some, None, Result, Ok, Err}
use Rattle.std.proofs.Common.{◌<◌, take, get_or, refl, sym, ap, subst, ◌∙◌, inl, inr, append_assoc, arith}
use Rattle.std.specs.List.{All}
use Rattle.std.proofs.lemmas.Option.{none-some}
use Rattle.std.proofs.lemmas.List.{append-nil, take_more, length-append, length-map, length-replicate}
use Rattle.ep_base.specs.Bytes.{AreBytes}
use Rattle.ep_base.proofs.BytesLemmas.{AreBytes-back}
use Rattle.ep_base.proofs.TableLemmas.{decided, one_value, refused_is_not}
use Rattle.ep_transport.specs.declared.tcp_option_element.TcpOptionElement.{TcpOptionElement}
use Rattle.ep_transport.specs.declared.tcp_option_element.TcpOptionElement.TheVariants.{Noop, MaximumSegmentSize, WindowScale, SelectiveAcknowledgementPermitted, SelectiveAcknowledgement, Timestamp}
use Rattle.ep_transport.specs.declared.tcp_option_element.TcpOptionReadError.{TcpOptionReadError}
use Rattle.ep_transport.specs.TcpOptionBytes.{Block, FitsBlocks, FitsOption, present, present_first, as_read, in_words, option_bytes, options_bytes, block_bytes, blocks_bytes, EndsOptions, IsOption, RefusesOption, AreItems}
use Rattle.ep_transport.proofs.TcpOptionReadLemmas.{option_is_read}

abbrev Item : Type 0
Item = Result TcpOptionElement TcpOptionReadError

-- ---- one list of items

-- Each option has at least one byte.
option_len : (option : TcpOptionElement) → 1 ≤ length (option_bytes option)
option_len Noop = omega arith
option_len (MaximumSegmentSize size) = omega arith
option_len (WindowScale shift) = omega arith
option_len SelectiveAcknowledgementPermitted = omega arith
option_len (SelectiveAcknowledgement first others) = omega arith
option_len (Timestamp time echo) = omega arith

refused_len : (bytes : List ℕ) (error : TcpOptionReadError) → RefusesOption bytes error → 1 ≤ length bytes
refused_len [] error refused = absurd (none-some error refused)
refused_len (kind ∷ rest) error refused = omega arith

rest_len : (bytes : List ℕ) (option : TcpOptionElement) (rest : List ℕ) → IsOption bytes (option, rest)
    → 1 + length rest ≤ length bytes
rest_len bytes option rest is =
    omega (arith, ap length is.parts, length-append (option_bytes option) rest, option_len option)

some_items : (n : ℕ) (bytes : List ℕ) → AreBytes bytes → length bytes ≤ n → (items : List Item) × AreItems bytes items
    × (length items ≤ length bytes)
some_items zero bytes fits short =
    elim (decided option_is_read bytes fits).some [
      | inl (None, ends) ↦ ([], ends, omega arith)
      | inl (Some read, is) ↦ absurd (omega (arith, rest_len bytes read.0 read.1 is, short))
      | inr (error, refused) ↦ absurd (omega (arith, refused_len bytes error refused, short))
    ]
some_items (suc n) bytes fits short =
    elim (decided option_is_read bytes fits).some [
      | inl (None, ends) ↦ ([], ends, omega arith)
      | inl (Some read, is) ↦
          let shorter = rest_len bytes read.0 read.1 is in
          let rest_fits : AreBytes read.1 = AreBytes-back (option_bytes read.0) read.1 (subst AreBytes is.parts fits) in
          let others = some_items n read.1 rest_fits (omega (arith, shorter, short)) in
          (Ok read.0 ∷ others.0, (read.1, is, others.1), omega (arith, others.2, shorter))
      | inr (error, refused) ↦ (Err error ∷ [], (refused, refl), refused_len bytes error refused)
    ]

pub items_present : (bytes : List ℕ) → AreBytes bytes → (items : List Item) × AreItems bytes items
    × (length items ≤ length bytes)
items_present bytes fits = some_items (length bytes) bytes fits (omega arith)

pub one_list : (bytes : List ℕ) (items others : List Item) → AreItems bytes items → AreItems bytes others
    → items ≡ others
one_list bytes [] [] a b = refl
one_list bytes [] (Ok option ∷ others) a b =
    absurd (none-some (option, b.0) (one_value option_is_read bytes None (Some (option, b.0)) a b.1))
one_list bytes [] (Err error ∷ others) a b = absurd (refused_is_not option_is_read bytes None error b.0 a)
one_list bytes (Ok option ∷ items) [] a b =
    absurd (none-some (option, a.0) (one_value option_is_read bytes None (Some (option, a.0)) b a.1))
one_list bytes (Err error ∷ items) [] a b = absurd (refused_is_not option_is_read bytes None error a.0 b)
one_list bytes (Ok option ∷ items) (Err error ∷ others) a b =
    absurd (refused_is_not option_is_read bytes (Some (option, a.0)) error b.0 a.1)
one_list bytes (Err error ∷ items) (Ok option ∷ others) a b =
    absurd (refused_is_not option_is_read bytes (Some (option, b.0)) error a.0 b.1)
one_list bytes (Ok option ∷ items) (Ok other ∷ others) a b =
    let both = one_value option_is_read bytes (Some (option, a.0)) (Some (other, b.0)) a.1 b.1 in
    let read : TcpOptionElement × List ℕ = (option, a.0) in
    let again : TcpOptionElement × List ℕ = (other, b.0) in
    let pair : read ≡ again = cc in
    let same : option ≡ other = ap (λ (r : TcpOptionElement × List ℕ). r.0) pair in
    let rest : a.0 ≡ b.0 = ap (λ (r : TcpOptionElement × List ℕ). r.1) pair in
    let tails = one_list b.0 items others (subst (λ s. AreItems s items) rest a.2) b.2 in
    λ i. Ok (same i) ∷ tails i
one_list bytes (Err error ∷ items) (Err other ∷ others) a b =
    let both : Some error ≡ Some other = sym a.0 ∙ b.0 in
    let same : error ≡ other = cc in
    let tails : items ≡ others = a.1 ∙ sym b.1 in
    λ i. Err (same i) ∷ tails i

-- ---- reading back

-- The blocks present in a list of present and then absent blocks are the present ones.
present_prefix : (blocks : List Block) (n : ℕ) → present (map Some blocks ++ replicate n None) ≡ blocks
present_prefix [] zero = refl
present_prefix [] (suc n) = present_prefix [] n
present_prefix (block ∷ blocks) n = ap (λ (others : List Block). block ∷ others) (present_prefix blocks n)

present_before : (blocks : List (Option Block)) → present (present_first blocks) ≡ present blocks
present_before blocks = present_prefix (present blocks) (length blocks - length (present blocks))

present_len : (blocks : List (Option Block)) → length (present blocks) ≤ length blocks
present_len [] = omega arith
present_len (None ∷ others) = omega (arith, present_len others)
present_len (Some block ∷ others) = omega (arith, present_len others)

preceding_len : (blocks : List (Option Block)) → length (present_first blocks) ≡ length blocks
preceding_len blocks =
    let none : List (Option Block) = replicate (length blocks - length (present blocks)) None in
    let place : Option Block = None in
    let some : Block → Option Block = Some in
    omega (
      arith,
      length-append (map some (present blocks)) none,
      length-map (present blocks) some,
      length-replicate (length blocks - length (present blocks)) place,
      present_len blocks,
    )

preceding_twice : (blocks : List (Option Block)) → present_first (present_first blocks) ≡ present_first blocks
preceding_twice blocks =
    let same = present_before blocks in
    let len = preceding_len blocks in
    λ i. map Some (same i) ++ replicate (len i - length (same i)) None

fits_present_first : (blocks : List (Option Block)) (n : ℕ) → FitsBlocks blocks
    → FitsBlocks (map Some (present blocks) ++ replicate n None)
fits_present_first [] zero fits = tt
fits_present_first [] (suc n) fits = fits_present_first [] n fits
fits_present_first (None ∷ others) n fits = fits_present_first others n fits
fits_present_first (Some block ∷ others) n fits = (fits.0, fits_present_first others n fits.1)

-- A written option is read back as `as_read` states.
written_is : (option : TcpOptionElement) (bytes rest : List ℕ) → FitsOption option → bytes ≡ option_bytes option ++ rest
    → IsOption bytes (as_read option, rest)
written_is Noop bytes rest fits parts = record { fits = tt; blocks = refl; parts = parts }
written_is (MaximumSegmentSize size) bytes rest fits parts = record { fits = fits; blocks = refl; parts = parts }
written_is (WindowScale shift) bytes rest fits parts = record { fits = fits; blocks = refl; parts = parts }
written_is SelectiveAcknowledgementPermitted bytes rest fits parts = record { fits = tt; blocks = refl; parts = parts }
written_is (Timestamp time echo) bytes rest fits parts = record { fits = fits; blocks = refl; parts = parts }
written_is (SelectiveAcknowledgement first others) bytes rest fits parts =
    let same = sym (present_before others) in
    record {
      fits =
          (fits.0, preceding_len others ∙ fits.1, fits_present_first others (length others - length (present others)) fits.2);
      blocks = ap (SelectiveAcknowledgement first) (preceding_twice others);
      parts =
          parts ∙ ap (λ (available : List Block). (5 ∷ (10 + 8 * length available) ∷ (block_bytes first ++ blocks_bytes available))
          ++ rest) same;
    }

zeros_end : (n : ℕ) → EndsOptions (replicate n 0)
zeros_end zero = tt
zeros_end (suc n) = refl

written_items : (options : List TcpOptionElement) (n : ℕ) → All FitsOption options
    → AreItems (options_bytes options ++ replicate n 0) (map (λ option. Ok (as_read option)) options)
written_items [] n fits = zeros_end n
written_items (option ∷ others) n fits =
    let rest = options_bytes others ++ replicate n 0 in (
      rest,
      written_is option _ rest (fits 0 option (omega arith))
          (append_assoc (option_bytes option) (options_bytes others) (replicate n 0)),
      written_items others n (λ k other below. fits (suc k) other (omega arith)),
    )

pub read_back : (options : List TcpOptionElement) → All FitsOption options
    → AreItems (in_words (options_bytes options)) (map (λ option. Ok (as_read option)) options)
read_back options fits = written_items options _ fits

-- ---- writing options one after another

options_bytes-append : (options others : List TcpOptionElement)
    → options_bytes (options ++ others) ≡ options_bytes options ++ options_bytes others
options_bytes-append [] others = refl
options_bytes-append (option ∷ options) others =
    ap (λ (s : List ℕ). option_bytes option ++ s) (options_bytes-append options others)
    ∙ sym (append_assoc (option_bytes option) (options_bytes options) (options_bytes others))

pub options_next : (options : List TcpOptionElement) (i : ℕ) (none : TcpOptionElement) → i < length options
    → options_bytes (take (i + 1) options) ≡ options_bytes (take i options) ++ option_bytes (get_or options i none)
options_next options i none within =
    ap options_bytes (take_more options i none within)
    ∙ options_bytes-append (take i options) (get_or options i none ∷ [])
    ∙ ap (λ (s : List ℕ). options_bytes (take i options) ++ s) (append-nil (option_bytes (get_or options i none)))
