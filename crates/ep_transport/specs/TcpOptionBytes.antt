-- The bytes of TCP options (RFC 9293, 3.2; selective acknowledgment: RFC 2018; window scale and timestamps: RFC 7323).
use Rattle.std.specs.Prelude.{◌≡◌, ℕ, ◌+◌, ◌-◌, ◌*◌, ◌/◌, ◌^◌, ◌<◌, ◌==◌, ◌||◌, not, nat_lt, if◌then◌else◌, Bool, true, ⊤, List, [], ◌∷◌, ◌++◌, length, map, replicate, slice_index, Option, Some, None, Result, Ok, Err}
use Rattle.std.specs.Int.{w16, w32, to_be_bytes}
use Rattle.ep_base.specs.Padding.{padded}
use Rattle.ep_base.specs.Tables.{Refuses}
use Rattle.ep_transport.specs.declared.tcp_option_element.TcpOptionElement.{TcpOptionElement}
use Rattle.ep_transport.specs.declared.tcp_option_element.TcpOptionElement.TheVariants.{Noop, MaximumSegmentSize, WindowScale, SelectiveAcknowledgementPermitted, SelectiveAcknowledgement, Timestamp}
use Rattle.ep_transport.specs.declared.tcp_option_element.TcpOptionReadError.{TcpOptionReadError}
use Rattle.ep_transport.specs.declared.tcp_option_element.TcpOptionReadError.TheVariants.{UnexpectedEndOfSlice, UnexpectedSize, UnknownId}

-- ---- kinds of options (the first byte)

-- end of option list; no option follows it (RFC 9293, 3.2)
abbrev pub end_of_list_kind : ℕ
end_of_list_kind = 0

-- no-operation, a padding byte between options (RFC 9293, 3.2)
abbrev pub no_operation_kind : ℕ
no_operation_kind = 1

-- maximum segment size (RFC 9293, 3.2 and 3.7.1)
abbrev pub maximum_segment_size_kind : ℕ
maximum_segment_size_kind = 2

-- window scale (RFC 7323, 2.2)
abbrev pub window_scale_kind : ℕ
window_scale_kind = 3

-- SACK-permitted (RFC 2018, 2)
abbrev pub selective_acknowledgement_permitted_kind : ℕ
selective_acknowledgement_permitted_kind = 4

-- selective acknowledgment, SACK (RFC 2018, 3)
abbrev pub selective_acknowledgement_kind : ℕ
selective_acknowledgement_kind = 5

-- timestamps (RFC 7323, 3.2)
abbrev pub timestamps_kind : ℕ
timestamps_kind = 8

-- bytes padded with zero bytes to a multiple of 4
abbrev pub in_words : List ℕ → List ℕ
in_words bytes = padded ((length bytes + 3) / 4 * 4) bytes

-- ---- writing

-- a block of a selective acknowledgment: the sequence number of its first byte, and of the byte after its last
abbrev pub Block : Type 0
Block = ℕ × ℕ

-- the blocks that are present
abbrev pub present : List (Option Block) → List Block
present [] = []
present (None ∷ others) = present others
present (Some block ∷ others) = block ∷ present others

-- the bytes of a block, 4 for each sequence number
abbrev pub block_bytes : Block → List ℕ
block_bytes block = to_be_bytes w32 block.0 ++ to_be_bytes w32 block.1

-- the bytes of consecutive blocks
abbrev pub blocks_bytes : List Block → List ℕ
blocks_bytes [] = []
blocks_bytes (block ∷ others) = block_bytes block ++ blocks_bytes others

-- the bytes of an option: kind, length and data; absent blocks are skipped
abbrev pub option_bytes : TcpOptionElement → List ℕ
option_bytes Noop = no_operation_kind ∷ []
option_bytes (MaximumSegmentSize size) = maximum_segment_size_kind ∷ 4 ∷ to_be_bytes w16 size
option_bytes (WindowScale shift) = window_scale_kind ∷ 3 ∷ shift ∷ []
option_bytes SelectiveAcknowledgementPermitted = selective_acknowledgement_permitted_kind ∷ 2 ∷ []
option_bytes (SelectiveAcknowledgement first others) =
    selective_acknowledgement_kind ∷ (10 + 8 * length (present others))
    ∷ (block_bytes first ++ blocks_bytes (present others))
option_bytes (Timestamp time echo) = timestamps_kind ∷ 10 ∷ (to_be_bytes w32 time ++ to_be_bytes w32 echo)

-- the bytes of consecutive options
abbrev pub options_bytes : List TcpOptionElement → List ℕ
options_bytes [] = []
options_bytes (option ∷ others) = option_bytes option ++ options_bytes others

-- ---- reading

-- Both sequence numbers fit 32 bits.
abbrev pub FitsBlock : Block → Type 0
FitsBlock block = (block.0 < 2 ^ 32) × (block.1 < 2 ^ 32)

-- Each block that is present fits its width.
abbrev pub FitsBlocks : List (Option Block) → Type 0
FitsBlocks [] = ⊤
FitsBlocks (None ∷ others) = FitsBlocks others
FitsBlocks (Some block ∷ others) = FitsBlock block × FitsBlocks others

-- The data of the option fits its width.
abbrev pub FitsOption : TcpOptionElement → Type 0
FitsOption Noop = ⊤
FitsOption (MaximumSegmentSize size) = size < 2 ^ 16
FitsOption (WindowScale shift) = shift < 2 ^ 8
FitsOption SelectiveAcknowledgementPermitted = ⊤
FitsOption (SelectiveAcknowledgement first others) = FitsBlock first × (length others ≡ 3) × FitsBlocks others
FitsOption (Timestamp time echo) = (time < 2 ^ 32) × (echo < 2 ^ 32)

-- the blocks with present ones moved before absent ones
abbrev pub present_first : List (Option Block) → List (Option Block)
present_first blocks = map Some (present blocks) ++ replicate (length blocks - length (present blocks)) None

-- the option read back from its bytes
abbrev pub as_read : TcpOptionElement → TcpOptionElement
as_read Noop = Noop
as_read (MaximumSegmentSize size) = MaximumSegmentSize size
as_read (WindowScale shift) = WindowScale shift
as_read SelectiveAcknowledgementPermitted = SelectiveAcknowledgementPermitted
as_read (SelectiveAcknowledgement first others) = SelectiveAcknowledgement first (present_first others)
as_read (Timestamp time echo) = Timestamp time echo

-- The bytes begin with this option, followed by the rest.
pub record IsOption (bytes : List ℕ) (read : TcpOptionElement × List ℕ) : Type 0 where
  pub fits : FitsOption read.0
  pub blocks : as_read read.0 ≡ read.0
  pub parts : bytes ≡ option_bytes read.0 ++ read.1

-- No option follows: there are no bytes left, or the first byte is the end of option list.
abbrev pub EndsOptions : List ℕ → Type 0
EndsOptions [] = ⊤
EndsOptions (kind ∷ rest) = kind ≡ end_of_list_kind

-- The bytes begin with this option and the rest, or (`None`) no option follows.
abbrev pub IsNextOption : List ℕ → Option (TcpOptionElement × List ℕ) → Type 0
IsNextOption bytes None = EndsOptions bytes
IsNextOption bytes (Some read) = IsOption bytes read

-- the errors for an option of a kind with a fixed length, in the order of the checks
abbrev pub sized_rows : ℕ → ℕ → List ℕ → List (Bool × TcpOptionReadError)
sized_rows kind size bytes =
    (nat_lt (length bytes) size, UnexpectedEndOfSlice kind size (length bytes))
    ∷ (not (slice_index bytes 1 == size), UnexpectedSize kind (slice_index bytes 1))
    ∷ []

-- whether this is the length of a selective acknowledgment with 1 to 4 blocks
abbrev pub is_blocks_size : ℕ → Bool
is_blocks_size size = size == 10 || size == 18 || size == 26 || size == 34

-- the errors for a selective acknowledgment, in the order of the checks
abbrev pub blocks_rows : List ℕ → List (Bool × TcpOptionReadError)
blocks_rows bytes =
    let size = slice_index bytes 1 in
    (nat_lt (length bytes) 2, UnexpectedEndOfSlice selective_acknowledgement_kind 2 (length bytes))
    ∷ (not (is_blocks_size size), UnexpectedSize selective_acknowledgement_kind size)
    ∷ (nat_lt (length bytes) size, UnexpectedEndOfSlice selective_acknowledgement_kind size (length bytes))
    ∷ []

-- the errors for an option of this kind, in the order of the checks
abbrev pub kind_rows : ℕ → List ℕ → List (Bool × TcpOptionReadError)
kind_rows kind bytes =
    if kind == end_of_list_kind then []
    else if kind == no_operation_kind then []
    else if kind == maximum_segment_size_kind then sized_rows maximum_segment_size_kind 4 bytes
    else if kind == window_scale_kind then sized_rows window_scale_kind 3 bytes
    else if kind == selective_acknowledgement_permitted_kind
    then sized_rows selective_acknowledgement_permitted_kind 2 bytes
    else if kind == selective_acknowledgement_kind then blocks_rows bytes
    else if kind == timestamps_kind then sized_rows timestamps_kind 10 bytes
    else (true, UnknownId kind) ∷ []

-- the errors for bytes that do not begin with an option and are not at the end of the list, in the order of the checks
abbrev pub option_rows : List ℕ → List (Bool × TcpOptionReadError)
option_rows [] = []
option_rows (kind ∷ rest) = kind_rows kind (kind ∷ rest)

-- The bytes are rejected as an option with this error: that of the first row that holds.
abbrev pub RefusesOption : List ℕ → TcpOptionReadError → Type 0
RefusesOption bytes = Refuses (option_rows bytes)

-- ---- iteration

-- A step of the iterator over these bytes returns this item, and keeps the bytes `left`, none after an error.
abbrev pub GivesItem : List ℕ → Option (Result TcpOptionElement TcpOptionReadError) → List ℕ → Type 0
GivesItem bytes None left = EndsOptions bytes × (left ≡ bytes)
GivesItem bytes (Some (Ok option)) left = IsOption bytes (option, left)
GivesItem bytes (Some (Err error)) left = RefusesOption bytes error × (left ≡ [])

-- The iterator over these bytes returns these items: options up to the end, or up to and including an error.
abbrev pub AreItems : List ℕ → List (Result TcpOptionElement TcpOptionReadError) → Type 0
AreItems bytes [] = EndsOptions bytes
AreItems bytes (Ok option ∷ others) = (rest : List ℕ) × IsOption bytes (option, rest) × AreItems rest others
AreItems bytes (Err error ∷ others) = RefusesOption bytes error × (others ≡ [])
