-- What the layout reads as the line of a number is that line by its items. Assumes nothing.
use Rattle.std.proofs.Common.{◌≡◌, ℕ, ◌+◌, ◌*◌, ◌<◌, ◌≤◌, Bool, ltb, leb, List, map, length, get_or, sym, refl, ap, ◌∙◌, ap₂, arith, leb-true}
use Rattle.length.specs.Answers.{done}
use Rattle.datagram.specs.Sizes.{message_least, covered_limit, messages_limit}
use Rattle.datagram.specs.Read.{after, octets_of, item_at, items_at, end_of}
use Rattle.datagram.specs.declared.reader.Part.{Part}
use Rattle.datagram.proofs.Laws.{items-done}
use Rattle.format.specs.Reading.{found}
use Rattle.format.specs.Format.{Format, ◌⊳◌, sequence_of}
use Rattle.session.specs.Cells.{State}
use Rattle.session_held.specs.Table.{last_state, state_numbered}
use Rattle.image.specs.Parts.{read_whole, number, octet_to, item_to}
use Rattle.image.specs.Layout as layout
use Rattle.image.specs.Layout.{from_base, number_from, state, accepted, messages, number_line}
use Rattle.image_reader.specs.Number.{TailIs, LineParts, NumberIs, number_by}
use Rattle.image_reader.proofs.Edges.{stepped, then_found, done-whole, number-found, octet-found}
use Rattle.image_reader.proofs.ItemEdges.{item-found, items-found}
use Rattle.image_reader.proofs.NumberLine.{two-octets}

record MessagesFound (limit : ℕ) (ahead : Bool) (s : List ℕ) (at : ℕ) (a : List (List ℕ)) (p : ℕ) : Type 0 where
  parts : List Part
  inside : at < length s
  counted : length parts ≡ get_or s at 0
  most : length parts ≤ from_base ahead messages_limit
  read : items_at message_least limit s (at + 1) (length parts) ≡ done parts
  value : a ≡ map (octets_of s) parts
  end : p ≡ 8 * end_of (at + 1) parts

messages-found : (limit : ℕ) (ahead : Bool) (s : List ℕ) (at : ℕ) (a : List (List ℕ)) (p : ℕ)
    → (messages limit ahead).read s 0 (8 * at) ≡ found a p → MessagesFound limit ahead s at a p
unfolding messages
messages-found limit ahead s at a p e =
    let both = stepped _ _ a p e in
    let x = then_found (octet_to (from_base ahead messages_limit)) (λ m. sequence_of m (item_to limit)) s 0 (8 * at) both.value both.at
    both.was in
    let m = octet-found (λ v. leb v (from_base ahead messages_limit)) s 0 at x.first x.at x.was in
    let all = items-found limit s 0 (at + 1) x.first x.second both.at
    (ap (λ (k : ℕ). (sequence_of x.first (item_to limit)).read s 0 k) (sym m.end) ∙ x.then) in
    let many = (items-done message_least limit s (at + 1) x.first all.parts all.read).counted in
    let is : both.value.1 ≡ a = cc in
    let end : both.at ≡ p = cc in
    record {
      parts = all.parts;
      inside = m.inside;
      counted = many ∙ m.value;
      most = rw many (leb-true x.first (from_base ahead messages_limit) m.passes);
      read = rw many all.read;
      value = sym is ∙ sym (ap (λ (y : ℕ × List (List ℕ)). y.1) x.same) ∙ all.octets;
      end = sym end ∙ all.end;
    }

-- ---- the whole line
module _ (limit : ℕ) (ahead : Bool) where
  abbrev from_n : Format (ℕ × List (List ℕ))
  from_n = octet_to (from_base ahead covered_limit) ⊳ λ _. messages limit ahead

  abbrev from_packet : Format (List ℕ × (ℕ × List (List ℕ)))
  from_packet = item_to limit ⊳ λ _. from_n

  abbrev from_note : Format (ℕ × (List ℕ × (ℕ × List (List ℕ))))
  from_note = number 2 ⊳ λ _. from_packet

  abbrev from_mark : Format (Bool × (ℕ × (List ℕ × (ℕ × List (List ℕ)))))
  from_mark = accepted ahead ⊳ λ _. from_note

pub record NumberFound (limit : ℕ) (ahead : Bool) (s : List ℕ) (k : layout.Number) : Type 0 where
  pub parts : LineParts
  pub is : NumberIs limit ahead s parts
  pub same : number_by s parts ≡ k

module _ (limit : ℕ) (ahead : Bool) (s : List ℕ) where
  -- n, m and the messages, up to the end
  record TailFound (at : ℕ) (v : ℕ × List (List ℕ)) : Type 0 where
    n : ℕ
    parts : List Part
    is : TailIs limit ahead s at n parts
    same : (n, map (octets_of s) parts) ≡ v

  tail-found : (at : ℕ) (v : ℕ × List (List ℕ)) → (from_n limit ahead).read s 0 (8 * at) ≡ found v (8 * length s) → TailFound at v
  tail-found at v e =
      let x = then_found (octet_to (from_base ahead covered_limit)) (λ _. messages limit ahead) s 0 (8 * at) v (8 * length s) e in
      let n = octet-found (λ v. leb v (from_base ahead covered_limit)) s 0 at x.first x.at x.was in
      let m = messages-found limit ahead s (at + 1) x.second (8 * length s)
      (ap (λ (k : ℕ). (messages limit ahead).read s 0 k) (sym n.end) ∙ x.then) in
      let next : at + 1 + 1 ≡ at + 2 = omega arith in
      let reads : items_at message_least limit s (at + 2) (length m.parts) ≡ done m.parts = rw next at m.read in
      let ends : end_of (at + 2) m.parts ≡ length s = omega (arith, m.end, ap (λ (k : ℕ). end_of k m.parts) next) in
      record {
        n = x.first;
        parts = m.parts;
        is =
            record {
              room = omega (arith, m.inside);
              covered = n.value;
              most = leb-true x.first (from_base ahead covered_limit) n.passes;
              counted = m.counted;
              few = m.most;
              read = reads;
              ends = ends;
            };
        same = ap (λ (l : List (List ℕ)). (x.first, l)) (sym m.value) ∙ x.same;
      }

  -- .. from the packet on
  record FromPacket (v : List ℕ × (ℕ × List (List ℕ))) : Type 0 where
    packet : Part
    n : ℕ
    parts : List Part
    read : item_at message_least limit s 4 ≡ done packet
    is : TailIs limit ahead s (after packet) n parts
    same : (octets_of s packet, (n, map (octets_of s) parts)) ≡ v

  from-packet : (v : List ℕ × (ℕ × List (List ℕ))) → (from_packet limit ahead).read s 0 (8 * 4) ≡ found v (8 * length s) → FromPacket v
  from-packet v e =
      let x = then_found (item_to limit) (λ _. from_n limit ahead) s 0 (8 * 4) v (8 * length s) e in
      let p = item-found limit s 4 0 x.first x.at x.was in
      let t = tail-found (after p.part) x.second (ap (λ (k : ℕ). (from_n limit ahead).read s 0 k) (sym p.end) ∙ x.then) in
      record {
        packet = p.part;
        n = t.n;
        parts = t.parts;
        read = p.read;
        is = t.is;
        same = ap₂ (λ (o : List ℕ) (r : ℕ × List (List ℕ)). (o, r)) (sym p.octets) t.same ∙ x.same;
      }

  -- .. from the note on
  record FromNote (v : ℕ × (List ℕ × (ℕ × List (List ℕ)))) : Type 0 where
    long : 4 ≤ length s
    packet : FromPacket v.1
    note : v.0 ≡ get_or s 2 0 * 256 + get_or s 3 0

  from-note : (v : ℕ × (List ℕ × (ℕ × List (List ℕ)))) → (from_note limit ahead).read s 0 (8 * 2) ≡ found v (8 * length s) → FromNote v
  from-note v e =
      let x = then_found (number 2) (λ _. from_packet limit ahead) s 0 (8 * 2) v (8 * length s) e in
      let n = number-found 2 s 0 2 x.first x.at x.was in
      record {
        long = omega (arith, n.0);
        packet =
            from-packet v.1
            (ap (λ (k : ℕ). (from_packet limit ahead).read s 0 k) (sym n.2)
            ∙ x.then
            ∙ ap (λ (y : ℕ × (List ℕ × (ℕ × List (List ℕ)))). found y.1 (8 * length s)) x.same);
        note = ap (λ (y : ℕ × (List ℕ × (ℕ × List (List ℕ)))). y.0) (sym x.same) ∙ n.1 ∙ two-octets s 2 3 refl;
      }

  -- .. from the mark on
  record FromMark (v : Bool × (ℕ × (List ℕ × (ℕ × List (List ℕ))))) : Type 0 where
    marked : get_or s 1 0 ≤ from_base ahead 1
    note : FromNote v.1
    mark : v.0 ≡ ltb 0 (get_or s 1 0)

  from-mark : (v : Bool × (ℕ × (List ℕ × (ℕ × List (List ℕ))))) → (from_mark limit ahead).read s 0 (8 * 1) ≡ found v (8 * length s)
      → FromMark v
  unfolding accepted
  from-mark v e =
      let x = then_found (accepted ahead) (λ _. from_note limit ahead) s 0 (8 * 1) v (8 * length s) e in
      let one = stepped ((octet_to (from_base ahead 1)).read s 0 (8 * 1)) _ x.first x.at x.was in
      let m = octet-found (λ v. leb v (from_base ahead 1)) s 0 1 one.value one.at one.was in
      let is : ltb 0 one.value ≡ x.first = cc in
      let end : one.at ≡ x.at = cc in
      record {
        marked = rw (← m.value) (leb-true one.value (from_base ahead 1) m.passes);
        note =
            from-note v.1
            (ap (λ (k : ℕ). (from_note limit ahead).read s 0 k) (sym m.end ∙ end)
            ∙ x.then
            ∙ ap (λ (y : Bool × (ℕ × (List ℕ × (ℕ × List (List ℕ))))). found y.1 (8 * length s)) x.same);
        mark =
            ap (λ (y : Bool × (ℕ × (List ℕ × (ℕ × List (List ℕ))))). y.0) (sym x.same)
            ∙ sym is
            ∙ ap (λ (n : ℕ). ltb 0 n) m.value;
      }

  -- .. and all of it
  record FromState (v : State × (Bool × (ℕ × (List ℕ × (ℕ × List (List ℕ)))))) : Type 0 where
    last : get_or s 0 0 ≤ last_state
    mark : FromMark v.1
    state : v.0 ≡ state_numbered (get_or s 0 0)

  from-state : (v : State × (Bool × (ℕ × (List ℕ × (ℕ × List (List ℕ))))))
      → (state ⊳ λ _. from_mark limit ahead).read s 0 0 ≡ found v (8 * length s) → FromState v
  unfolding state
  from-state v e =
      let x = then_found state (λ _. from_mark limit ahead) s 0 0 v (8 * length s) e in
      let one = stepped ((octet_to last_state).read s 0 0) _ x.first x.at x.was in
      let m = octet-found (λ v. leb v last_state) s 0 0 one.value one.at one.was in
      let is : state_numbered one.value ≡ x.first = cc in
      let end : one.at ≡ x.at = cc in
      record {
        last = rw (← m.value) (leb-true one.value last_state m.passes);
        mark =
            from-mark v.1
            (ap (λ (k : ℕ). (from_mark limit ahead).read s 0 k) (sym m.end ∙ end)
            ∙ x.then
            ∙ ap (λ (y : State × (Bool × (ℕ × (List ℕ × (ℕ × List (List ℕ)))))). found y.1 (8 * length s)) x.same);
        state =
            ap (λ (y : State × (Bool × (ℕ × (List ℕ × (ℕ × List (List ℕ)))))). y.0) (sym x.same)
            ∙ sym is
            ∙ ap state_numbered m.value;
      }

  number_of : (v : State × (Bool × (ℕ × (List ℕ × (ℕ × List (List ℕ)))))) → FromState v → NumberFound limit ahead s (number_from v)
  number_of v x =
      let packet = x.mark.note.packet in
      record {
        parts =
            record {
              state = get_or s 0 0;
              mark = get_or s 1 0;
              note = get_or s 2 0 * 256 + get_or s 3 0;
              packet = packet.packet;
              n = packet.n;
              messages = packet.parts;
            };
        is =
            record {
              long = x.mark.note.long;
              state = refl;
              last = x.last;
              mark = refl;
              marked = x.mark.marked;
              note = refl;
              packet = packet.read;
              tail = packet.is;
            };
        same = rw (x.state, x.mark.mark, x.mark.note.note, ← packet.same);
      }

  pub number-back : (k : layout.Number) → read_whole (number_line limit ahead) s ≡ done k → NumberFound limit ahead s k
  unfolding number_line
  number-back k e =
      let all = stepped ((state ⊳ λ _. from_mark limit ahead).read s 0 0) (λ a p. found (number_from a) p) k (8 * length s)
      (done-whole (number_line limit ahead) s k e) in
      let made : number_from all.value ≡ k = cc in
      let end : all.at ≡ 8 * length s = cc in
      rw made at (number_of all.value (from-state all.value (all.was ∙ ap (λ (n : ℕ). found all.value n) end)))
