use Rattle.amf_io.specs.InMemory.{bytes_left}
use Rattle.amf_packet.proofs.Spelled.{version_read, texts_read}
use Rattle.amf_file_tests.proofs.packet_tests.read_of.Goals as goal

pub returns-clause-version : goal.returns-clause-version
returns-clause-version c = version_read (λ s. Unit {0}) bytes_left c.in_ok-cursor.cursor c.read_packet.new.cursor c.read_packet.result c.read_packet.ensures.answers

pub returns-clause-texts : goal.returns-clause-texts
returns-clause-texts c = texts_read (λ s. Unit {0}) bytes_left c.in_ok-cursor.cursor c.read_packet.new.cursor c.read_packet.result c.read_packet.ensures.answers
