use Rattle.std.proofs.Common.{◌≡◌, ◌-◌, ◌^◌, ◌≤◌, length, min, take}
use Rattle.std.specs.List.{All}
use Rattle.ep_transport.specs.TcpOptionBytes.{FitsOption, options_bytes}
use Rattle.ep_transport.proofs.tcp_options.TcpOptions.set_elements.Given as goal

-- The options so far are counted and fit their widths, and are copied as long as they fit into 40 bytes.
abbrev pub invariant-loop-element : goal.invariant-loop-element
invariant-loop-element l = record {
  counted : l.len ≡ min (length (options_bytes (take l.element-index l.elements))) (2 ^ 64 - 1);
  copied : l.len ≤ 40 → l.bytes.items ≡ options_bytes (take l.element-index l.elements);
  fits : All FitsOption (take l.element-index l.elements);
}
