-- The layer of a packet that is rejected, and why, in the text of the errors themselves.
use Rattle.std.specs.Prelude.{ℕ, List, [], ◌++◌, codes}
use Rattle.etherparse.specs.Types.SliceError.{SliceError}
use Rattle.etherparse.specs.Types.SliceError.TheVariants.{Len, LinuxSll, Macsec, Ip, Ipv4, Ipv6, Ipv4Exts, Ipv6Exts, Tcp}
use Rattle.refusal_texts.specs.ReasonTexts.{reason_text}

-- the name of the rejected layer; empty if bytes are missing, since the text of that error names the layer itself
abbrev pub refused_layer : SliceError → List ℕ
refused_layer (Len error) = []
refused_layer (LinuxSll error) = codes "LinuxSll "
refused_layer (Macsec error) = codes "Macsec "
refused_layer (Ip error) = codes "Ip "
refused_layer (Ipv4 error) = codes "Ipv4 "
refused_layer (Ipv6 error) = codes "Ipv6 "
refused_layer (Ipv4Exts error) = codes "Ipv4Exts "
refused_layer (Ipv6Exts error) = codes "Ipv6Exts "
refused_layer (Tcp error) = codes "Tcp "

-- the text of a rejected packet, after a space
abbrev pub refusal_text : SliceError → List ℕ
refusal_text error = codes " refused " ++ refused_layer error ++ reason_text error

-- the text of a packet whose layers end before a rejected layer
abbrev pub stop_text : SliceError → List ℕ
stop_text error = codes " stopped " ++ refused_layer error ++ reason_text error
