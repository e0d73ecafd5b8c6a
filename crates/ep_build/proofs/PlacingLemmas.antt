-- Bytes that are written to a slice, one after another.
use Rattle.std.proofs.Common.{◌≡◌, ℕ, ◌+◌, ◌≤◌, List, [], ◌∷◌, ◌++◌, length, Option, None, Some, Ok, refl, sym, ap, subst, ◌∙◌, arith}
use Rattle.std.specs.Prelude.{take, drop}
use Rattle.std.proofs.lemmas.List.{append_assoc, append-nil, drop_at, drop-drop, length-append, length-drop, length-take-le}
use Rattle.std.proofs.lemmas.List.{take_at}
use Rattle.ep_ext.specs.Chains.{FitParts, parts_bytes}
use Rattle.ep_ext.specs.ExtensionParts.{ExtensionPart, destination_options, hop_by_hop, part_bytes, optional_part}
use Rattle.ep_ext.specs.declared.ipv6_exts.Ipv6Extensions.{Ipv6Extensions}
use Rattle.ep_ext.specs.declared.ipv6_raw_ext_header.Ipv6RawExtHeader.{Ipv6RawExtHeader}
use Rattle.ep_build.specs.BuildErrors.{IsBuildable}
use Rattle.ep_build.specs.BuiltFrames.{FrameHeaders, built_frame}
use Rattle.ep_build.specs.Placing.{AreAt, FillsStart, PartsAreAt}
use Rattle.ep_build.proofs.HeaderListLemmas.{header_lists}

-- ---- bytes

-- The slice keeps its length.
pub same_len : (bytes old new : List ℕ) (at end : ℕ) → AreAt bytes old new at end → length new ≡ length old
same_len bytes old new at end present = omega (
  arith,
  present.fits,
  ap length present.is,
  length-append (take at old) (bytes ++ drop (at + length bytes) old),
  length-append bytes (drop (at + length bytes) old),
  length-take-le at old (omega (arith, present.fits)),
  length-drop (at + length bytes) old,
)

-- Bytes, and more bytes after them, are in the slice.
pub both_at : (bytes more old mid new : List ℕ) (at middle end : ℕ) → AreAt bytes old mid at middle
    → AreAt more mid new middle end → AreAt (bytes ++ more) old new at end
both_at bytes more old mid new at middle end first second =
    let rest = drop (at + length bytes) old in
    let complete : mid ≡ (take at old ++ bytes) ++ rest = first.is ∙ sym (append_assoc (take at old) bytes rest) in
    let len : length (take at old ++ bytes) ≡ middle = omega (
      arith,
      first.ends,
      first.fits,
      length-append (take at old) bytes,
      length-take-le at old (omega (arith, first.fits)),
    ) in
    let prefix : take middle mid ≡ take at old ++ bytes =
    ap (take middle) complete ∙ take_at (take at old ++ bytes) rest middle len in
    let after : drop middle mid ≡ rest = ap (drop middle) complete ∙ drop_at (take at old ++ bytes) rest middle len in
    let both : length (bytes ++ more) ≡ length bytes + length more = length-append bytes more in
    let sum : at + length bytes + length more ≡ at + length (bytes ++ more) = omega (arith, both) in
    let left : drop (middle + length more) mid ≡ drop (at + length (bytes ++ more)) old =
    sym (drop-drop (length more) middle mid) ∙ ap (drop (length more)) after
    ∙ drop-drop (length more) (at + length bytes) old ∙ ap (λ (n : ℕ). drop n old) sum in
    record {
      fits = omega (arith, second.fits, same_len bytes old mid at middle first, first.ends, both);
      ends = omega (arith, first.ends, second.ends, both);
      is = second.is ∙ ap (λ (l : List ℕ). l ++ (more ++ drop (middle + length more) mid)) prefix
          ∙ ap (λ (l : List ℕ). (take at old ++ bytes) ++ (more ++ l)) left
          ∙ append_assoc (take at old) bytes (more ++ drop (at + length (bytes ++ more)) old)
          ∙ ap (λ (l : List ℕ). take at old ++ l)
          (sym (append_assoc bytes more (drop (at + length (bytes ++ more)) old)));
    }

-- Bytes at the start of a slice are its prefix, and the rest is unchanged.
pub at_start : (bytes old new : List ℕ) (end : ℕ) → AreAt bytes old new 0 end → new ≡ bytes ++ drop (length bytes) old
at_start bytes old new end present =
    let none : 0 + length bytes ≡ length bytes = omega arith in
    present.is ∙ ap (λ (n : ℕ). bytes ++ drop n old) none

-- ---- extension headers

-- The bytes of two concatenated lists of headers are those of the first and of the second.
pub bytes_of_both : (parts more : List ExtensionPart)
    → parts_bytes (parts ++ more) ≡ parts_bytes parts ++ parts_bytes more
bytes_of_both [] more = refl
bytes_of_both (part ∷ parts) more = ap (λ (l : List ℕ). part_bytes part ++ l) (bytes_of_both parts more)
    ∙ sym (append_assoc (part_bytes part) (parts_bytes parts) (parts_bytes more))

fit_both : (parts more : List ExtensionPart) → FitParts parts → FitParts more → FitParts (parts ++ more)
fit_both [] more fit fit_more = fit_more
fit_both (part ∷ parts) more fit fit_more = (fit.0, fit_both parts more fit.1 fit_more)

-- Headers, and more headers after them, are in the slice.
pub both_parts_at : (parts more : List ExtensionPart) (old mid new : List ℕ) (at middle end : ℕ)
    → PartsAreAt parts old mid at middle → PartsAreAt more mid new middle end
    → PartsAreAt (parts ++ more) old new at end
both_parts_at parts more old mid new at middle end first second = record {
  bytes = subst (λ (b : List ℕ). AreAt b old new at end) (sym (bytes_of_both parts more))
      (both_at (parts_bytes parts) (parts_bytes more) old mid new at middle end first.bytes second.bytes);
  fit = fit_both parts more first.fit second.fit;
}

-- A header, and extension headers after it, are in the slice.
pub headers_at : (prefix : List ℕ) (parts : List ExtensionPart) (old mid new : List ℕ) (at middle end : ℕ)
    → AreAt (prefix ++ []) old mid at middle → PartsAreAt parts mid new middle end
    → AreAt (prefix ++ parts_bytes parts) old new at end
headers_at prefix parts old mid new at middle end first second =
    both_at prefix (parts_bytes parts) old mid new at middle end
    (subst (λ (b : List ℕ). AreAt b old mid at middle) (append-nil prefix) first) second.bytes

-- A slice that is long enough for all headers is long enough for the first ones, and after them for the others.
pub space_first : (parts more : List ExtensionPart) (at space : ℕ) → at + length (parts_bytes (parts ++ more)) ≤ space
    → at + length (parts_bytes parts) ≤ space
space_first parts more at space enough = omega (
  arith,
  enough,
  ap length (bytes_of_both parts more),
  length-append (parts_bytes parts) (parts_bytes more),
)

pub space_after : (parts more : List ExtensionPart) (old mid : List ℕ) (at middle : ℕ)
    → PartsAreAt parts old mid at middle → at + length (parts_bytes (parts ++ more)) ≤ length old
    → middle + length (parts_bytes more) ≤ length mid
space_after parts more old mid at middle present enough = omega (
  arith,
  enough,
  present.bytes.ends,
  same_len (parts_bytes parts) old mid at middle present.bytes,
  ap length (bytes_of_both parts more),
  length-append (parts_bytes parts) (parts_bytes more),
)

-- Hop-by-hop options and destination options have equal bytes.
pub as_destination : (header : Option Ipv6RawExtHeader) (old new : List ℕ) (at end : ℕ)
    → PartsAreAt (optional_part hop_by_hop header) old new at end
    → PartsAreAt (optional_part destination_options header) old new at end
as_destination None old new at end present = present
as_destination (Some header) old new at end present = record { bytes = present.bytes; fit = present.fit }

pub same_len_destination : (header : Option Ipv6RawExtHeader)
    → length (parts_bytes (optional_part hop_by_hop header)) ≡ length (parts_bytes (optional_part destination_options header))
same_len_destination None = refl
same_len_destination (Some header) = refl

-- The first four, or five, kinds of IPv6 extension headers are in the slice, one after another. The function that writes
-- destination options writes them as hop-by-hop options.
pub four_parts_at : (all : Ipv6Extensions) (first second third fourth new : List ℕ) (a b c d end : ℕ)
    → PartsAreAt (optional_part hop_by_hop all.hop_by_hop_options) first second a b
    → PartsAreAt (optional_part hop_by_hop all.destination_options) second third b c
    → let lists = header_lists all in PartsAreAt lists.after third fourth c d → PartsAreAt lists.fragments fourth new d end
    → PartsAreAt (lists.hop ++ lists.destination ++ lists.after ++ lists.fragments) first new a end
four_parts_at all first second third fourth new a b c d end hop destination routed fragments =
    let lists = header_lists all in
    let two = both_parts_at lists.hop lists.destination first second third a b c hop
    (as_destination all.destination_options second third b c destination) in
    let three = both_parts_at (lists.hop ++ lists.destination) lists.after first third fourth a c d two routed in
    both_parts_at (lists.hop ++ lists.destination ++ lists.after) lists.fragments first fourth new a d end three fragments

pub five_parts_at : (all : Ipv6Extensions) (first second third fourth fifth new : List ℕ) (a b c d e end : ℕ)
    → PartsAreAt (optional_part hop_by_hop all.hop_by_hop_options) first second a b
    → PartsAreAt (optional_part hop_by_hop all.destination_options) second third b c
    → let lists = header_lists all in PartsAreAt lists.after third fourth c d
    → PartsAreAt lists.fragments fourth fifth d e → PartsAreAt lists.auth fifth new e end
    → PartsAreAt (lists.hop ++ lists.destination ++ lists.after ++ lists.fragments ++ lists.auth) first new a end
five_parts_at all first second third fourth fifth new a b c d e end hop destination routed fragments auth =
    let lists = header_lists all in
    both_parts_at (lists.hop ++ lists.destination ++ lists.after ++ lists.fragments) lists.auth first fifth new a e end
    (four_parts_at all first second third fourth fifth a b c d e hop destination routed fragments) auth

-- ---- frames

-- A link part, IP headers and their content are a frame at the start of the slice.
pub packet_at : (prefix written content frame old mid new : List ℕ) (middle end : ℕ)
    → AreAt (prefix ++ written) old mid 0 middle → AreAt content mid new middle end
    → prefix ++ (written ++ content) ≡ frame → AreAt frame old new 0 end
packet_at prefix written content frame old mid new middle end first second is =
    subst (λ (b : List ℕ). AreAt b old new 0 end) (append_assoc prefix written content ∙ is)
    (both_at (prefix ++ written) content old mid new 0 middle end first second)

-- A frame at the start of the slice is a successful result of building into it.
pub fills : (kept : FrameHeaders) (payload old new : List ℕ) (size end : ℕ) → IsBuildable kept (length payload)
    → size ≡ length (built_frame kept payload) → AreAt (built_frame kept payload) old new 0 end
    → FillsStart kept payload old new (Ok size)
fills kept payload old new size end buildable len present =
    let frame = built_frame kept payload in (
      buildable,
      len,
      omega (arith, len, present.fits),
      at_start frame old new end present ∙ ap (λ (n : ℕ). frame ++ drop n old) (sym len),
    )
