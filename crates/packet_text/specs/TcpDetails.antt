-- Details of a TCP header besides its ports, flags and sequence numbers, each part with a leading space.
use Rattle.std.specs.Prelude.{◌≡◌, ℕ, List, [], ◌∷◌, ◌++◌, Option, Some, None, Result, Ok, Err, codes}
use Rattle.std.specs.Fmt.{decimal}
use Rattle.etherparse.specs.Types.TcpHeader.{TcpHeader}
use Rattle.etherparse.specs.Types.TcpOptionElement.{TcpOptionElement}
use Rattle.etherparse.specs.Types.TcpOptionElement.TheVariants.{Noop, MaximumSegmentSize, WindowScale, SelectiveAcknowledgementPermitted, SelectiveAcknowledgement, Timestamp}
use Rattle.etherparse.specs.Types.TcpOptionReadError.{TcpOptionReadError}
use Rattle.etherparse.specs.Types.TcpOptionReadError.TheVariants.{UnexpectedEndOfSlice, UnexpectedSize, UnknownId}
use Rattle.etherparse.specs.TcpOptionBytes.{AreItems, Block}

-- a SACK block: its left edge and its right edge, the sequence number after its last byte
abbrev pub block_text : Block → List ℕ
block_text block = (codes " " ++ decimal block.0) ++ (codes "-" ++ decimal block.1)

-- a SACK block, if present
abbrev pub sack_block_text : Option Block → List ℕ
sack_block_text (Some block) = block_text block
sack_block_text None = []

-- the SACK blocks that are present
abbrev pub sack_blocks_text : List (Option Block) → List ℕ
sack_blocks_text [] = []
sack_blocks_text (place ∷ others) = sack_block_text place ++ sack_blocks_text others

-- an option: its name and its values
abbrev pub option_text : TcpOptionElement → List ℕ
option_text Noop = codes " nop"
option_text (MaximumSegmentSize size) = codes " mss " ++ decimal size
option_text (WindowScale shift) = codes " wscale " ++ decimal shift
option_text SelectiveAcknowledgementPermitted = codes " sack-permitted"
option_text (SelectiveAcknowledgement first others) = codes " sack" ++ block_text first ++ sack_blocks_text others
option_text (Timestamp time echo) = (codes " timestamp " ++ decimal time) ++ (codes " echo " ++ decimal echo)

-- why an option cannot be read: its kind is unknown, it is truncated, or its length is invalid for its kind
abbrev pub unread_option_text : TcpOptionReadError → List ℕ
unread_option_text (UnknownId kind) = codes " option " ++ decimal kind
unread_option_text (UnexpectedEndOfSlice kind expected actual) = (codes " option " ++ decimal kind) ++ codes " cut"
unread_option_text (UnexpectedSize kind size) = (codes " option " ++ decimal kind) ++ (codes " length " ++ decimal size)

-- an option, or why it cannot be read
abbrev pub item_text : Result TcpOptionElement TcpOptionReadError → List ℕ
item_text (Ok option) = option_text option
item_text (Err error) = unread_option_text error

-- options, up to the end of the list or the first option that cannot be read
abbrev pub items_text : List (Result TcpOptionElement TcpOptionReadError) → List ℕ
items_text [] = []
items_text (item ∷ others) = item_text item ++ items_text others

-- The text is that of the options in these bytes.
abbrev pub IsOptionsText : List ℕ → List ℕ → Type 0
IsOptionsText bytes text =
    (items : List (Result TcpOptionElement TcpOptionReadError)) × AreItems bytes items × (text ≡ items_text items)

-- The text has the details of a header: its window and its options (RFC 9293, 3.1).
abbrev pub IsTcpDetails : TcpHeader → List ℕ → Type 0
IsTcpDetails tcp text =
    (options : List ℕ) × IsOptionsText tcp.options options
    × (text ≡ (codes " window " ++ decimal tcp.window_size) ++ options)
