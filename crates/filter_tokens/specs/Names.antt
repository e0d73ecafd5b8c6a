-- Names in filter expressions: keywords, ports, constants, and words that are not supported.
use Rattle.std.specs.Prelude.{ℕ, if◌then◌else◌, Bool, List, [], ◌∷◌, codes, Option, Some, None}
use Rattle.std.specs.Str.{bytes_eq}
use Rattle.filter_tokens.specs.declared.keyword.Keyword.{Keyword}
use Rattle.filter_tokens.specs.declared.keyword.Keyword.TheVariants as name

-- True if two texts are equal.
abbrev pub is_text : List ℕ → List ℕ → Bool
is_text text other = bytes_eq text other

-- The value of the first name that equals a word.
abbrev pub lookup_name : {V : Type 0} → List ℕ → List (List ℕ × V) → Option V
lookup_name text [] = None
lookup_name text (row ∷ rows) =
    if is_text text row.0 then Some row.1 else lookup_name text rows

-- The keywords.
abbrev pub keyword_names : List (List ℕ × Keyword)
keyword_names =
    (codes "ip", name.Ip) ∷ (codes "ip6", name.Ip6) ∷ (codes "arp", name.Arp) ∷ (codes "tcp", name.Tcp) ∷
    (codes "udp", name.Udp) ∷ (codes "sctp", name.Sctp) ∷ (codes "icmp", name.Icmp) ∷
    (codes "icmp6", name.Icmp6) ∷ (codes "igmp", name.Igmp) ∷ (codes "ah", name.Ah) ∷ (codes "esp", name.Esp) ∷
    (codes "ether", name.Ether) ∷ (codes "src", name.Src) ∷ (codes "dst", name.Dst) ∷
    (codes "host", name.Host) ∷ (codes "net", name.Net) ∷ (codes "mask", name.Mask) ∷
    (codes "port", name.Port) ∷ (codes "portrange", name.PortRange) ∷ (codes "proto", name.Proto) ∷
    (codes "vlan", name.Vlan) ∷ (codes "less", name.Less) ∷ (codes "greater", name.Greater) ∷
    (codes "len", name.Len) ∷ (codes "length", name.Len) ∷ (codes "broadcast", name.Broadcast) ∷
    (codes "multicast", name.Multicast) ∷ []

-- The names of ports.
abbrev pub port_names : List (List ℕ × ℕ)
port_names =
    (codes "ftp-data", 20) ∷ (codes "ftp", 21) ∷ (codes "ssh", 22) ∷ (codes "telnet", 23) ∷ (codes "smtp", 25) ∷
    (codes "domain", 53) ∷ (codes "bootps", 67) ∷ (codes "bootpc", 68) ∷ (codes "tftp", 69) ∷
    (codes "http", 80) ∷ (codes "pop3", 110) ∷ (codes "ntp", 123) ∷ (codes "imap", 143) ∷ (codes "snmp", 161) ∷
    (codes "snmptrap", 162) ∷ (codes "bgp", 179) ∷ (codes "ldap", 389) ∷ (codes "https", 443) ∷
    (codes "syslog", 514) ∷ (codes "submission", 587) ∷ (codes "imaps", 993) ∷ (codes "sip", 5060) ∷
    (codes "mdns", 5353) ∷ []

-- The names of offsets and values in byte tests.
abbrev pub constant_names : List (List ℕ × ℕ)
constant_names =
    (codes "tcpflags", 13) ∷ (codes "tcp-fin", 1) ∷ (codes "tcp-syn", 2) ∷ (codes "tcp-rst", 4) ∷
    (codes "tcp-push", 8) ∷ (codes "tcp-ack", 16) ∷ (codes "tcp-urg", 32) ∷ (codes "tcp-ece", 64) ∷
    (codes "tcp-cwr", 128) ∷ (codes "icmptype", 0) ∷ (codes "icmp6type", 0) ∷ (codes "icmpcode", 1) ∷
    (codes "icmp6code", 1) ∷ (codes "icmp-echoreply", 0) ∷ (codes "icmp-unreach", 3) ∷
    (codes "icmp-sourcequench", 4) ∷ (codes "icmp-redirect", 5) ∷ (codes "icmp-echo", 8) ∷
    (codes "icmp-routeradvert", 9) ∷ (codes "icmp-routersolicit", 10) ∷ (codes "icmp-timxceed", 11) ∷
    (codes "icmp-paramprob", 12) ∷ (codes "icmp-tstamp", 13) ∷ (codes "icmp-tstampreply", 14) ∷
    (codes "icmp-ireq", 15) ∷ (codes "icmp-ireqreply", 16) ∷ (codes "icmp-maskreq", 17) ∷
    (codes "icmp-maskreply", 18) ∷ (codes "icmp6-destinationunreach", 1) ∷ (codes "icmp6-packettoobig", 2) ∷
    (codes "icmp6-timeexceeded", 3) ∷ (codes "icmp6-parameterproblem", 4) ∷ (codes "icmp6-echo", 128) ∷
    (codes "icmp6-echoreply", 129) ∷ (codes "icmp6-multicastlistenerquery", 130) ∷
    (codes "icmp6-multicastlistenerreportv1", 131) ∷ (codes "icmp6-multicastlistenerdone", 132) ∷
    (codes "icmp6-routersolicit", 133) ∷ (codes "icmp6-routeradvert", 134) ∷
    (codes "icmp6-neighborsolicit", 135) ∷ (codes "icmp6-neighboradvert", 136) ∷ (codes "icmp6-redirect", 137) ∷ []

-- The words of tcpdump that are not supported.
abbrev pub not_taken_words : List (List ℕ)
not_taken_words =
    codes "rarp" ∷ codes "link" ∷ codes "ppp" ∷ codes "slip" ∷ codes "fddi" ∷ codes "tr" ∷ codes "wlan" ∷
    codes "igrp" ∷ codes "pim" ∷ codes "vrrp" ∷ codes "carp" ∷ codes "radio" ∷ codes "atalk" ∷ codes "aarp" ∷
    codes "decnet" ∷ codes "lat" ∷ codes "sca" ∷ codes "moprc" ∷ codes "mopdl" ∷ codes "iso" ∷ codes "esis" ∷
    codes "es-is" ∷ codes "isis" ∷ codes "is-is" ∷ codes "l1" ∷ codes "l2" ∷ codes "iih" ∷ codes "lsp" ∷
    codes "snp" ∷ codes "csnp" ∷ codes "psnp" ∷ codes "clnp" ∷ codes "stp" ∷ codes "ipx" ∷ codes "netbeui" ∷
    codes "protochain" ∷ codes "gateway" ∷ codes "type" ∷ codes "subtype" ∷ codes "direction" ∷ codes "dir" ∷
    codes "address1" ∷ codes "address2" ∷ codes "address3" ∷ codes "address4" ∷ codes "addr1" ∷ codes "addr2" ∷
    codes "addr3" ∷ codes "addr4" ∷ codes "ra" ∷ codes "ta" ∷ codes "byte" ∷ codes "inbound" ∷
    codes "outbound" ∷ codes "ifindex" ∷ codes "ifname" ∷ codes "on" ∷ codes "rset" ∷ codes "ruleset" ∷
    codes "rnr" ∷ codes "rulenum" ∷ codes "srnr" ∷ codes "subrulenum" ∷ codes "reason" ∷ codes "action" ∷
    codes "mpls" ∷ codes "pppoed" ∷ codes "pppoes" ∷ codes "geneve" ∷ codes "lane" ∷ codes "llc" ∷
    codes "metac" ∷ codes "bcc" ∷ codes "oam" ∷ codes "oamf4" ∷ codes "oamf4ec" ∷ codes "oamf4sc" ∷ codes "sc" ∷
    codes "ilmic" ∷ codes "vpi" ∷ codes "vci" ∷ codes "connectmsg" ∷ codes "metaconnect" ∷ codes "fisu" ∷
    codes "lssu" ∷ codes "lsu" ∷ codes "msu" ∷ codes "hfisu" ∷ codes "hlssu" ∷ codes "hlsu" ∷ codes "hmsu" ∷
    codes "sio" ∷ codes "opc" ∷ codes "dpc" ∷ codes "sls" ∷ codes "hsio" ∷ codes "hopc" ∷ codes "hdpc" ∷
    codes "hsls" ∷ []
