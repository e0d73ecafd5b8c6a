-- Answers of the calls on filters.
use Rattle.std.specs.Prelude.{◌≡◌, ◌==◌, ◌-◌, ◌^◌, min, ◌<◌, ◌≤◌, ◌⊎◌, if◌then◌else◌, ℕ, List, [], ◌∷◌, ◌++◌, length, drop, slice_get, codes, Option, Some, None}
use Rattle.std.specs.List.{slice_range}
use Rattle.std.specs.Str.{IsUtf8}
use Rattle.std.specs.Str.Lossy.{utf8_valid_len}
use Rattle.etherparse.specs.Bytes.{bit}
use Rattle.etherparse.specs.Lax.{IsLax}
use Rattle.etherparse.specs.LaxLayers.{LaxLayers, no_lax_layers}
use Rattle.etherparse.specs.LaxRefusals.{RefusesLax}
use Rattle.etherparse.specs.Types.Entry.{Entry}
use Rattle.etherparse.specs.Types.SliceError.{SliceError}
use Rattle.packet_filter.specs.KindTexts.{kind_text}
use Rattle.packet_filter.specs.Meaning.{meaning}
use Rattle.packet_filter.specs.Packets.{packet_of}
use Rattle.packet_filter.specs.Refusals.{IsFilterText, RefusesText}
use Rattle.packet_filter.specs.Trees.{tree_of}
use Rattle.packet_filter.specs.FilterError.{FilterError as WrongFilter}
use Rattle.packet_filter.specs.FilterErrorKind.{FilterErrorKind}
use Rattle.packet_filter.specs.FilterErrorKind.TheVariants as kind
use Rattle.packet_filter.specs.Step.{Step}
use Rattle.etherparse_c.specs.declared.filter_handle.FilterHandle.{FilterHandle}
use Rattle.etherparse_c.specs.declared.filter_values.FilterError.{FilterError}
use Rattle.etherparse_c.specs.declared.held_filter.HeldFilter.{HeldFilter}
use Rattle.etherparse_c.specs.ManyAnswers.{frame_start, frame_end}
use Rattle.etherparse_c.specs.Placing.{IsPlaced}

-- ---- errors of filter expressions

-- the number of a reason; 0 if an allocation failed
abbrev pub kind_number : FilterErrorKind → ℕ
kind_number kind.Character = 1
kind_number kind.Arithmetic = 2
kind_number kind.NotTaken = 3
kind_number kind.End = 4
kind_number kind.Misplaced = 5
kind_number kind.Unqualified = 6
kind_number kind.Unknown = 7
kind_number kind.NotAnAddress = 8
kind_number kind.NotANetwork = 9
kind_number kind.NotAStation = 10
kind_number kind.NotAPort = 11
kind_number kind.NotARange = 12
kind_number kind.NotAProtocol = 13
kind_number kind.NotAnEtherType = 14
kind_number kind.NotAVlan = 15
kind_number kind.NotANumber = 16
kind_number kind.NotASize = 17
kind_number kind.WrongFamily = 18
kind_number kind.NotALength = 19
kind_number kind.NotAMask = 20
kind_number kind.HostBits = 21
kind_number kind.NetOnly = 22
kind_number kind.Deep = 23
kind_number kind.Long = 24
kind_number kind.Memory = 0

-- the reason of a number
abbrev pub kind_of_number : ℕ → Option FilterErrorKind
kind_of_number number =
    if number == 1 then Some kind.Character
    else if number == 2 then Some kind.Arithmetic
    else if number == 3 then Some kind.NotTaken
    else if number == 4 then Some kind.End
    else if number == 5 then Some kind.Misplaced
    else if number == 6 then Some kind.Unqualified
    else if number == 7 then Some kind.Unknown
    else if number == 8 then Some kind.NotAnAddress
    else if number == 9 then Some kind.NotANetwork
    else if number == 10 then Some kind.NotAStation
    else if number == 11 then Some kind.NotAPort
    else if number == 12 then Some kind.NotARange
    else if number == 13 then Some kind.NotAProtocol
    else if number == 14 then Some kind.NotAnEtherType
    else if number == 15 then Some kind.NotAVlan
    else if number == 16 then Some kind.NotANumber
    else if number == 17 then Some kind.NotASize
    else if number == 18 then Some kind.WrongFamily
    else if number == 19 then Some kind.NotALength
    else if number == 20 then Some kind.NotAMask
    else if number == 21 then Some kind.HostBits
    else if number == 22 then Some kind.NetOnly
    else if number == 23 then Some kind.Deep
    else if number == 24 then Some kind.Long
    else None

-- the number of the reason that a text is not UTF-8
abbrev pub not_utf8 : ℕ
not_utf8 = 25

abbrev pub no_filter_error : FilterError
no_filter_error = record { kind = 0; start = 0; end = 0 }

-- an error of a filter expression
abbrev pub filter_error_part : WrongFilter → FilterError
filter_error_part error = record { kind = kind_number error.kind; start = error.start; end = error.end }

-- the error of bytes that are not UTF-8: it begins after the longest start of them that is
abbrev pub utf8_error_part : List ℕ → FilterError
utf8_error_part bytes = record { kind = not_utf8; start = utf8_valid_len bytes; end = length bytes }

-- ---- parsing

-- the filter of an object that C holds, by its steps
abbrev pub filter_of : HeldFilter → Option (List Step)
filter_of held = held.pointer.filter

-- The handle has the address of an object with this filter.
abbrev pub HasFilter : FilterHandle → List Step → Type 0
HasFilter handle filter = (held : HeldFilter) × (handle.filter ≡ Some held) × (filter_of held ≡ Some filter)

-- The object has a filter, which is unchanged, and the answer is one for this filter.
pub record UsesFilter (old new : HeldFilter) (IsAnswer : List Step → Type 0) : Type 0 where
  pub filter : List Step
  pub was : filter_of old ≡ Some filter
  pub is : filter_of new ≡ Some filter
  pub answer : IsAnswer filter

-- The status is 0, and the handle has the filter; or it is 5, and an allocation failed.
abbrev pub IsStoredFilter : List Step → FilterHandle → FilterHandle → ℕ → Type 0
IsStoredFilter filter old new status =
    ((status ≡ 0) × HasFilter new filter) ⊎ ((status ≡ 5) × (new ≡ old))

-- The status is 0, and the handle has the filter of the text; or it is 1, and the text is no filter expression, with
-- this error, or not UTF-8; or it is 5, and an allocation failed. At 1 and 5 the handle is unchanged, and at 0 and 5
-- there is no error.
abbrev pub IsNewFilter : List ℕ → FilterHandle → FilterHandle → FilterError → ℕ → Type 0
IsNewFilter text old new error status =
    ((status ≡ 0) × (error ≡ no_filter_error)
    × ((filter : List Step) × HasFilter new filter × IsFilterText text (tree_of filter)))
    ⊎ ((status ≡ 1) × (new ≡ old) × IsUtf8 text
    × ((wrong : WrongFilter) × RefusesText text wrong × (error ≡ filter_error_part wrong)))
    ⊎ ((status ≡ 1) × (new ≡ old) × (¬ IsUtf8 text) × (error ≡ utf8_error_part text))
    ⊎ ((status ≡ 5) × (new ≡ old) × (error ≡ no_filter_error))

-- ---- matching

-- The bytes are parsed laxly into these layers; into none if the first header is rejected.
abbrev pub HasLayers : Entry → List ℕ → LaxLayers → Type 0
HasLayers entry bytes layers =
    IsLax entry bytes layers
    ⊎ (((error : SliceError) × RefusesLax entry bytes error) × (layers ≡ no_lax_layers))

-- The number is 1 if the filter matches the packet with these bytes and this original length, and 0 if it does not.
abbrev pub IsMatch : List Step → Entry → List ℕ → ℕ → ℕ → Type 0
IsMatch filter entry bytes wire_len matches =
    (layers : LaxLayers) × HasLayers entry bytes layers
    × (matches ≡ bit (meaning (tree_of filter) (packet_of layers bytes wire_len)))

-- The status is 0, and the number says whether the filter matches; or it is 2, the entry is unknown, and the number 0.
abbrev pub IsMatchAnswer : List Step → Option Entry → List ℕ → ℕ → ℕ → ℕ → Type 0
IsMatchAnswer filter None bytes wire_len matches status = (status ≡ 2) × (matches ≡ 0)
IsMatchAnswer filter (Some entry) bytes wire_len matches status =
    (status ≡ 0) × IsMatch filter entry bytes wire_len matches

-- ---- matching many packets

-- the original length of a packet, or else the number of its bytes
abbrev pub wire_len_of : Option ℕ → ℕ → ℕ
wire_len_of (Some wire_len) len = wire_len
wire_len_of None len = min len (2 ^ 32 - 1)

-- The number says whether the filter matches the packet at an index, which has these bytes.
abbrev pub IsMatchWith : List Step → Entry → List ℕ → List ℕ → ℕ → ℕ → Type 0
IsMatchWith filter entry packet wire_lens index matches =
    IsMatch filter entry packet (wire_len_of (slice_get wire_lens index) (length packet)) matches

-- The number at an index says whether the filter matches the packet at this index.
pub record IsMatchedAt (filter : List Step) (entry : Entry) (bytes ends wire_lens matches : List ℕ) (index : ℕ)
    : Type 0 where
  pub answer : ℕ
  pub stored : slice_get matches index ≡ Some answer
  pub ascends : frame_start ends index ≤ frame_end ends index
  pub within : frame_end ends index ≤ length bytes
  pub is : IsMatchWith filter entry (slice_range bytes (frame_start ends index) (frame_end ends index)) wire_lens index
      answer

-- The first `matched` packets are matched; the other numbers are unchanged.
pub record AreMatched (filter : List Step) (entry : Entry) (bytes ends wire_lens old new : List ℕ) (matched : ℕ)
    : Type 0 where
  pub most : matched ≤ length ends
  pub each : (index : ℕ) → index < matched → IsMatchedAt filter entry bytes ends wire_lens new index
  pub others : drop matched new ≡ drop matched old

-- The status is 3, there are fewer numbers than ends, and no packet is matched; or it is 2, the entry is unknown, and no
-- packet is matched; or it is 0, and all packets are matched; or it is 2, and only the packets are matched that come
-- before a packet that ends before it starts, or after the last byte. The number of numbers is checked first, then the
-- entry.
abbrev pub IsManyMatchedFrom : List Step → Option Entry → List ℕ → List ℕ → List ℕ → List ℕ → List ℕ → ℕ → ℕ → Type 0
IsManyMatchedFrom filter None bytes ends wire_lens old new matched status =
    (status ≡ 2) × (matched ≡ 0) × (new ≡ old)
IsManyMatchedFrom filter (Some entry) bytes ends wire_lens old new matched status =
    AreMatched filter entry bytes ends wire_lens old new matched
    × (((status ≡ 0) × (matched ≡ length ends))
    ⊎ ((status ≡ 2) × (matched < length ends)
    × ((frame_end ends matched < frame_start ends matched) ⊎ (length bytes < frame_end ends matched))))

abbrev pub IsManyMatched : List Step → Option Entry → List ℕ → List ℕ → List ℕ → List ℕ → List ℕ → ℕ → ℕ → Type 0
IsManyMatched filter entry bytes ends wire_lens old new matched status =
    ((status ≡ 3) × (length old < length ends) × (matched ≡ 0) × (new ≡ old))
    ⊎ ((length ends ≤ length old)
    × IsManyMatchedFrom filter entry bytes ends wire_lens old new matched status)

-- ---- texts

-- Answer of a call that writes the text of a reason and a zero byte: the status is 0 or 3 (`IsPlaced`). If the number is
-- not that of a reason, the status is 2, and the buffer is unchanged.
abbrev pub IsKnownTextAnswer : Option FilterErrorKind → List ℕ → List ℕ → ℕ → ℕ → Type 0
IsKnownTextAnswer None old new written status = (status ≡ 2) × (new ≡ old) × (written ≡ 0)
IsKnownTextAnswer (Some reason) old new written status = IsPlaced (kind_text reason ++ 0 ∷ []) old new written status

abbrev pub IsErrorTextAnswer : ℕ → List ℕ → List ℕ → ℕ → ℕ → Type 0
IsErrorTextAnswer number old new written status =
    ((number ≡ not_utf8) × IsPlaced (codes "not UTF-8" ++ 0 ∷ []) old new written status)
    ⊎ ((¬ (number ≡ not_utf8)) × IsKnownTextAnswer (kind_of_number number) old new written status)
