-- A packet that is written, in any edition: what it says of kind, value, types, lengths and data that none of the writer's rows is given,
-- and back. Assumes nothing.
use Prim.Native.Nat.{ℕ, ◌≤◌, ◌<◌}
use mathlib.Core.Path.{◌≡◌}
use mathlib.Core.Bool.{true, not, ◌&&◌}
use mathlib.Core.List.{List, []}
use lib.ListN.{length}
use lib.Dec.{leb, ltb, eqb}
use borrow.Author.Tests.{lt-ltb, le-ltb, eq-eqb, eqb-true, not-false, le-leb, ltb-true, ltb-false, leb-true}
use Rattle.length.specs.Answers.{done}
use Rattle.length.specs.Tables.{unless}
use Rattle.length.proofs.Laws.{both, unless-past, unless-done}
use Rattle.datagram.specs.Sizes.{packet_limit}
use Rattle.packet.specs.Edition.{Edition}
use Rattle.packet.specs.Packet.{fields_limit, types_limit, many_values, right_fields, every}
use Rattle.packet.specs.Write.{packet_octets, lengths_sum, one_each, all_assigned, right_types, all_right, in_sizes, packet_to_write}
use Rattle.packet.specs.declared.types.PacketKind.{PacketKind}

-- ---- one length for each type, and all of them the data's
module _ (ts ns d : List ℕ) where
  pub each-sum : one_each ts ns d ≡ true → lengths_sum ns ≡ length d
  unfolding one_each
  each-sum is = eqb-true _ _ (both (eqb (length ts) (length ns)) _ is).1

  pub each-length : one_each ts ns d ≡ true → length ts ≡ length ns
  unfolding one_each
  each-length is = eqb-true _ _ (both _ (eqb (lengths_sum ns) (length d)) is).0

-- ---- a packet that is written
pub record WriteForm (edition : Edition) (k : PacketKind) (v : ℕ) (ts ns d w : List ℕ) : Type 0 where
  pub few : length ts ≤ fields_limit
  pub same : length ts ≡ length ns
  pub all : lengths_sum ns ≡ length d
  pub known : v < many_values edition k
  pub types : every (λ t. leb t (types_limit edition)) ts ≡ true
  pub fields : right_fields k (ltb 0 (length ts)) ≡ true
  pub right : right_types edition ts ns ≡ true
  pub short : every (λ n. leb n packet_limit) ns ≡ true
  pub size : length w ≤ packet_limit
  pub is : w ≡ packet_octets edition k v ts ns d

module _ (edition : Edition) (k : PacketKind) (v : ℕ) (ts ns d : List ℕ) where
  pub write-form : (w : List ℕ) → packet_to_write edition k v ts ns d ≡ done w → WriteForm edition k v ts ns d w
  unfolding packet_to_write all_assigned all_right in_sizes
  write-form w e =
      let packet = packet_octets edition k v ts ns d in
      let most = types_limit edition in
      let few = unless-past (ltb fields_limit (length ts)) _ _ _ w e in
      let each = unless-past (not (one_each ts ns d)) _ _ _ w few.1 in
      let known = unless-past (not (all_assigned edition k v ts)) _ _ _ w each.1 in
      let right = unless-past (not (all_right edition k ts ns)) _ _ _ w known.1 in
      let sizes = unless-past (not (in_sizes ns (length packet))) _ _ _ w right.1 in
      let is : w ≡ packet_octets edition k v ts ns d = unless-done [] packet w sizes.1 in
      let one = not-false (one_each ts ns d) each.0 in
      let assigned_all = not-false (ltb v (many_values edition k) && every (λ t. leb t most) ts) known.0 in
      let right_all = not-false (right_fields k (ltb 0 (length ts)) && right_types edition ts ns) right.0 in
      let sizes_all = not-false (every (λ n. leb n packet_limit) ns && leb (length packet) packet_limit) sizes.0 in
      record {
        few = ltb-false _ _ few.0;
        same = each-length ts ns d one;
        all = each-sum ts ns d one;
        known = ltb-true v (many_values edition k) (both _ (every (λ t. leb t most) ts) assigned_all).0;
        types = (both (ltb v (many_values edition k)) _ assigned_all).1;
        fields = (both _ (right_types edition ts ns) right_all).0;
        right = (both (right_fields k (ltb 0 (length ts))) _ right_all).1;
        short = (both _ (leb (length packet) packet_limit) sizes_all).0;
        size = rw is (leb-true (length packet) packet_limit (both (every (λ n. leb n packet_limit) ns) _ sizes_all).1);
        is = is;
      }

  -- and back: what passes each test is written
  pub write-of : WriteForm edition k v ts ns d (packet_octets edition k v ts ns d)
      → packet_to_write edition k v ts ns d ≡ done (packet_octets edition k v ts ns d)
  unfolding packet_to_write unless one_each all_assigned all_right in_sizes
  write-of form =
      rw (
        le-ltb fields_limit (length ts) form.few,
        eq-eqb (length ts) (length ns) form.same,
        eq-eqb (lengths_sum ns) (length d) form.all,
        lt-ltb v (many_values edition k) form.known,
        form.types,
        form.fields,
        form.right,
        form.short,
        le-leb (length (packet_octets edition k v ts ns d)) packet_limit form.size,
      )
