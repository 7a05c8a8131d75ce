-- The line of a number by its items is what the layout reads of its octets. Assumes nothing.
use Rattle.std.proofs.Common.{◌≡◌, ℕ, ◌+◌, ◌*◌, Bool, ltb, leb, List, map, length, get_or, drop, sym, refl, ap, ◌∙◌, arith, get_or-drop, le-leb}
use Rattle.length.specs.Answers.{done}
use Rattle.datagram.specs.Sizes.{covered_limit, messages_limit}
use Rattle.datagram.specs.Read.{after, octets_of}
use Rattle.format.specs.Reading.{found}
use Rattle.session_held.specs.Table.{last_state, state_numbered}
use Rattle.image.specs.Parts.{read_whole, high_first, number, octet_to}
use Rattle.image.specs.Layout.{from_base, state, accepted, messages, number_line}
use Rattle.image_reader.specs.Number.{LineParts, NumberIs, number_by}
use Rattle.image_reader.proofs.Edges.{whole-done, number_at, octet-at}
use Rattle.image_reader.proofs.ItemEdges.{item-at, items_at_lem}

-- two octets, the high one first
pub two-octets : (s : List ℕ) (at next : ℕ) → next ≡ at + 1 → high_first 2 (drop at s) ≡ get_or s at 0 * 256 + get_or s next 0
unfolding high_first
two-octets s at next is =
    let high : get_or (drop at s) 0 0 ≡ get_or s at 0 = get_or-drop at s 0 0 ∙ ap (λ (k : ℕ). get_or s k 0) (omega arith) in
    let low : get_or (drop at s) 1 0 ≡ get_or s next 0 = get_or-drop at s 1 0 ∙ ap (λ (k : ℕ). get_or s k 0) (sym is) in
    omega arith

-- ---- what stands there is read
module _ {limit : ℕ} {ahead : Bool} {s : List ℕ} {x : LineParts} (is : NumberIs limit ahead s x) where
  state-at : state.read s 0 0 ≡ found (state_numbered x.state) (8 * 1)
  unfolding state
  state-at =
      let e = octet-at (λ v. leb v last_state) s 0 0 (omega (arith, is.long))
      (le-leb (get_or s 0 0) last_state (omega (arith, is.state, is.last))) 1 refl in
      rw (e, ← is.state)

  mark-at : (accepted ahead).read s 0 (8 * 1) ≡ found (ltb 0 x.mark) (8 * 2)
  unfolding accepted
  mark-at =
      let e = octet-at (λ v. leb v (from_base ahead 1)) s 0 1 (omega (arith, is.long))
      (le-leb (get_or s 1 0) (from_base ahead 1) (omega (arith, is.mark, is.marked))) 2 refl in
      rw (e, ← is.mark)

  note-at : (number 2).read s 0 (8 * 2) ≡ found x.note (8 * 4)
  note-at = number_at 2 s 0 2 (omega (arith, is.long)) 4 refl ∙ ap (λ (n : ℕ). found n (8 * 4)) (two-octets s 2 3 refl ∙ sym is.note)

  n-at : (octet_to (from_base ahead covered_limit)).read s 0 (8 * after x.packet) ≡ found x.n (8 * (after x.packet + 1))
  n-at =
      octet-at (λ v. leb v (from_base ahead covered_limit)) s 0 (after x.packet) (omega (arith, is.tail.room))
      (le-leb (get_or s (after x.packet) 0) (from_base ahead covered_limit) (omega (arith, is.tail.covered, is.tail.most)))
      (after x.packet + 1) refl
      ∙ ap (λ (n : ℕ). found n (8 * (after x.packet + 1))) (sym is.tail.covered)

  messages-at : (messages limit ahead).read s 0 (8 * (after x.packet + 1)) ≡ found (map (octets_of s) x.messages) (8 * length s)
  unfolding messages
  messages-at =
      let tail = is.tail in
      let m = octet-at (λ v. leb v (from_base ahead messages_limit)) s 0 (after x.packet + 1) (omega (arith, is.tail.room))
      (le-leb (get_or s (after x.packet + 1) 0) (from_base ahead messages_limit) (omega (arith, is.tail.counted, is.tail.few)))
      (after x.packet + 2) (omega arith) in
      let all = items_at_lem limit s 0 (after x.packet + 2) (length x.messages) x.messages is.tail.read
      ∙ ap (λ (k : ℕ). found (map (octets_of s) x.messages) (8 * k)) is.tail.ends in
      rw (m, ← is.tail.counted, all)

  line_at : (number_line limit ahead).read s 0 0 ≡ found (number_by s x) (8 * length s)
  unfolding number_line
  line_at = rw (state-at, mark-at, note-at, item-at limit s 4 0 x.packet is.packet, n-at, messages-at)

  pub number-reads : read_whole (number_line limit ahead) s ≡ done (number_by s x)
  number-reads = whole-done (number_line limit ahead) s (number_by s x) line_at
