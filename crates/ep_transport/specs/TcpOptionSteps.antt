-- The state of an iterator over TCP options.
use Rattle.std.specs.Prelude.{ℕ, ◌+◌, List}
use Rattle.ep_transport.specs.declared.tcp_options_iterator.TcpOptionsIterator.{TcpOptionsIterator}
use Rattle.ep_base.specs.Bytes.{long_at}
use Rattle.ep_transport.specs.TcpOptionBytes.{Block}

-- the bytes that are not read yet
abbrev pub options_left : TcpOptionsIterator → List ℕ
options_left steps = steps.options.now

-- the block at this index
abbrev pub block_at : List ℕ → ℕ → Block
block_at bytes at = (long_at bytes at, long_at bytes (at + 4))
