-- Each contract cites its promise, so what a caller learns is the promise itself. Assumes nothing.
use Rattle.demands.specs.CallContracts.LibraryContracts.{LibraryContracts}
use Rattle.demands.specs.CallContracts.HostContracts.{HostContracts}

pub library-contracts : LibraryContracts
library-contracts =
    record {
      read_length = λ κs octets r end p. p;
      read_within = λ κs octets least most r end p. p;
      write_length = λ κs n out r a new p. p;
      read_datagram = λ κs octets r end p. p;
      write_datagram = λ κs number packet kind lengths run out r a b c d e new p. p;
      read_packet = λ κs edition octets ending r end p. p;
      second_read = λ κs edition octets ending r end p. p;
      write_packet = λ κs edition kind value types lengths octets out r a b c d e h new p. p;
      fresh_session = λ κs r end p. p;
      offer = λ κs s datagram r end p. p;
      release = λ κs s leave out r a b new p. p;
      solve = λ κs s r end p. p;
      fresh_sender = λ κs r end p. p;
      sender_in_ranges = λ κs s r end p. p;
      send = λ κs s packet settings out r a b c new p. p;
      fresh_joiner = λ κs r end p. p;
      field = λ κs j type octets out r a b c new p. p;
      lost = λ κs j r end p. p;
      turns = λ κs edition kind packet r end p. p;
      feed = λ κs j edition kind packet turn out r a b c d e new p. p;
      write_image = λ κs s out r a new p. p;
      read_image = λ κs text r end p. p;
      replay = λ κs trace numbers out r a b new p. p;
      compare = λ κs one two list r a b new p. p;
      hex_to_octets = λ κs line out r a new p. p;
    }

pub host-contracts : HostContracts
host-contracts =
    record {
      fresh = λ κs table octets messages r t o g p. p;
      in_ranges = λ κs head table octets messages r end p. p;
      offer = λ κs head table octets messages datagram r a t o g b p. p;
      offer_checked = λ κs head table octets messages datagram r a t o g b p. p;
      release = λ κs head table octets messages leave out r a t o g b new p. p;
      release_checked = λ κs head table octets messages leave out r a t o g b new p. p;
      solve = λ κs head table octets messages r a t o b p. p;
      solve_checked = λ κs head table octets messages r a t o b p. p;
      sender_fresh = λ κs sizes octets r n o p. p;
      sender_in_ranges = λ κs sent sizes octets r end p. p;
      send = λ κs sent sizes octets packet parity count n out r a ns o b c d e new p. p;
      send_checked = λ κs sent sizes octets packet parity count n out r a ns o b c d e new p. p;
      joiner_fresh = λ κs frame r f p. p;
      joiner_field = λ κs tainted size frame type octets out r a b f c d new p. p;
      joiner_lost = λ κs tainted size frame r a b f p. p;
      packet_read = λ κs octets edition repaired r end p. p;
      packet_write = λ κs edition kind value types lengths octets out r a b c d e h new p. p;
      image_write = λ κs head table octets messages out r a b c d new p. p;
      image_read = λ κs head table octets messages text r a t o g b p. p;
    }
