use Rattle.ep_packet.proofs.IpHeadersLemmas.{leads, one_way, read}
use Rattle.ep_packet.proofs.laws.ip_headers.read_back.Goals as goal

pub returns : goal.returns
returns c = record { leads = leads; one_way = one_way; read = read }
