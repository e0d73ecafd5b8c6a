-- Texts of the reasons for errors of filter expressions.
use Rattle.std.specs.Prelude.{ℕ, List, codes}
use Rattle.filter_tokens.specs.declared.filter_error.FilterErrorKind.{FilterErrorKind}
use Rattle.filter_tokens.specs.declared.filter_error.FilterErrorKind.TheVariants as kind

abbrev pub kind_text : FilterErrorKind → List ℕ
kind_text kind.Character = codes "unexpected character"
kind_text kind.Arithmetic = codes "arithmetic is not supported"
kind_text kind.NotTaken = codes "a keyword of tcpdump that is not supported"
kind_text kind.End = codes "the filter ends too early"
kind_text kind.Misplaced = codes "not allowed here"
kind_text kind.Unqualified = codes "a value without host, net, port or the like before it"
kind_text kind.Unknown = codes "not a filter keyword"
kind_text kind.NotAnAddress = codes "not an IP address (names are not looked up)"
kind_text kind.NotANetwork = codes "not a network (such as 10.0.0.0/8 or 192.168)"
kind_text kind.NotAStation = codes "not a MAC address (such as 02:00:00:00:00:01)"
kind_text kind.NotAPort = codes "not a port (a number up to 65535, or a name such as http)"
kind_text kind.NotARange = codes "not a range of ports (such as 6000-6010)"
kind_text kind.NotAProtocol = codes "not a protocol number (up to 255)"
kind_text kind.NotAnEtherType = codes "not an ether type (1536 to 65535)"
kind_text kind.NotAVlan = codes "not a VLAN identifier (up to 4095)"
kind_text kind.NotANumber = codes "not a number (up to 4294967295)"
kind_text kind.NotASize = codes "not a size (1, 2 or 4)"
kind_text kind.WrongFamily = codes "an address of the other IP version"
kind_text kind.NotALength = codes "not a prefix length of the address"
kind_text kind.NotAMask = codes "not a mask (ones, followed by zeros)"
kind_text kind.HostBits = codes "the address has bits set after the prefix"
kind_text kind.NetOnly = codes "only networks have a prefix length or mask"
kind_text kind.Deep = codes "more than 64 open parentheses and not"
kind_text kind.Long = codes "the filter has more than 65536 bytes"
kind_text kind.Memory = codes "out of memory"
