-- Demand 1 holds of reading, for every text.
-- Assumes nothing.
use Prim.Native.Nat.{ℕ, ◌+◌, ◌≤◌, ◌<◌, ◌/◌, ◌%◌, ◌^◌}
use native.Mathlib.Omega.{arith}
use mathlib.Core.Path.{◌≡◌, refl, sym, ap, ◌∙◌}
use mathlib.Core.Logic.{◌↔◌, ◌⊎◌, inl, inr, ⊎_map}
use mathlib.Core.List.Memᴰ
use mathlib.Core.List.{List, [], ◌∷◌, ◌++◌, append_assoc, Memᴰ}
use lib.ListN.{length, get_or}
use Rattle.policy.specs.Model.{Range, Selector, entity_at}
use Rattle.policy.specs.Wellformed.{Ordered}
use Rattle.base.proofs.Laws.Members.{member_at}
use Rattle.frames.specs.Parts.{SaysBox}
use Rattle.hexlines.proofs.Laws.Digits.{decimal_value, capital_value, small_value, bytes_of_pair, byte_of_digits, digits_capital}
use Rattle.hexlines.proofs.Laws.Lines.{no_line_decides}
use Rattle.hexlines.proofs.Laws.Numbers.{number_of_append}
use Rattle.reader.proofs.Laws.Wellformed.{refused_line}
use Rattle.reader.proofs.Laws.Rules.{accepted_exactly, refused_otherwise}
use Rattle.reader.proofs.Laws.Texts.{text_cut, lines_no_feed, rest_no_feed}
use Rattle.reader.proofs.Laws.Forms.{frame_said}
use Rattle.reader.proofs.Laws.Refused.{refused_exactly, accepted_faultless}
use Rattle.promises.specs.ReadingPromises.{DigitValues, Bytes, BoxBytes, low_high, range_said, box_then, box_said, FrameBytes, MaskValues, Reading}

digit_values : DigitValues
digit_values =
    record {
      decimal = λ v h. let e = decimal_value (48 + v) (omega arith, omega arith) in omega arith;
      capital = λ v h. let e = capital_value (65 + v) (omega arith, omega arith) in omega arith;
      small = λ v h. let e = small_value (97 + v) (omega arith, omega arith) in omega arith;
      none = refl;
      pair = bytes_of_pair;
      two = λ b. refl;
      written = λ b h. rw (byte_of_digits b h);
      capitals = digits_capital;
    }

-- Two numbers of a field, and what follows them.
field_said : (width : ℕ) (ws rest : List ℕ) (s : Selector) (b : Bytes width × Bytes width) → SaysBox ws rest s
    → SaysBox (width ∷ ws) (low_high b rest) (range_said b ∷ s)
field_said width ws rest s b h = (b.0.0, b.1.0, rest, refl, (b.0.1, refl), (b.1.1, refl), h)

box_said_lem : (b : BoxBytes) → SaysBox (4 ∷ 4 ∷ 2 ∷ 2 ∷ 1 ∷ []) (box_then b []) (box_said b)
box_said_lem b =
    let e = low_high b.protocol [] in
    let d = low_high b.destination_port e in
    let c = low_high b.source_port d in
    let last = range_said b.protocol ∷ [] in
    let ports = range_said b.source_port ∷ range_said b.destination_port ∷ last in
    field_said 4 (4 ∷ 2 ∷ 2 ∷ 1 ∷ []) (low_high b.destination_address c) (range_said b.destination_address ∷ ports) b.source_address
    (field_said 4 (2 ∷ 2 ∷ 1 ∷ []) c ports b.destination_address
    (field_said 2 (2 ∷ 1 ∷ []) d (range_said b.destination_port ∷ last) b.source_port
    (field_said 2 (1 ∷ []) e last b.destination_port (field_said 1 [] [] [] b.protocol refl))))

-- What follows a field, or a box, stands after its bytes.
low_high_then : {width : ℕ} (b : Bytes width × Bytes width) (l rest : List ℕ) → low_high b (l ++ rest) ≡ low_high b l ++ rest
low_high_then b l rest = sym (append_assoc b.0.0 (b.1.0 ++ l) rest ∙ ap (λ (m : List ℕ). b.0.0 ++ m) (append_assoc b.1.0 l rest))

box_then_lem : (b : BoxBytes) (rest : List ℕ) → box_then b rest ≡ box_then b [] ++ rest
box_then_lem b rest =
    rw (
      ← low_high_then b.source_address _ rest,
      ← low_high_then b.destination_address _ rest,
      ← low_high_then b.source_port _ rest,
      ← low_high_then b.destination_port _ rest,
      ← low_high_then b.protocol [] rest,
    ) refl

frame_bytes : FrameBytes
frame_bytes = record {
  entity = λ parent layer mask. (frame_said _ _).1 (refl, refl);
  cap = λ technology h p c. (frame_said _ _).1 (refl, (refl, refl));
  floor = λ h p c. (frame_said _ _).1 (refl, (refl, refl));
  filter = λ root b.
      (frame_said _ _).1
      (refl, record { box = box_then b []; selector = box_said_lem b; last = []; action = refl; bytes = ap (λ (l : List ℕ). root ∷ l) (box_then_lem b []) });
  filter_action = λ root action b h.
      (frame_said _ _).1 (
        refl,
        record {
          box = box_then b [];
          selector = box_said_lem b;
          last = action ∷ [];
          action = (refl, h);
          bytes = ap (λ (l : List ℕ). root ∷ l) (box_then_lem b (action ∷ []));
        },
      );
  row = λ holder source destination technology h p c b gateways few.
      (frame_said _ _).1 (
        refl,
        record {
          box = box_then b [];
          selector = box_said_lem b;
          coefficients = refl;
          few = few;
          bytes = ap (λ (l : List ℕ). holder ∷ source ∷ destination ∷ technology ∷ h ∷ p ∷ c ∷ l) (box_then_lem b (length gateways ∷ gateways));
        },
      );
}

-- The values of a mask.
mask_values : (mask : ℕ) → ((mask % 2 ≡ 0) × (mask < 2 ^ 7)) ↔ MaskValues mask
mask_values mask = (
  λ h.
      let even = h.0 in
      let small = h.1 in
      let a = mask / 2 in
      let b = a / 2 in
      let c = b / 2 in
      let d = c / 2 in
      let e = d / 2 in
      let f = e / 2 in
      record { bit = λ u. get_or (0 ∷ a ∷ b ∷ c ∷ d ∷ e ∷ f ∷ []) u 0 % 2; each = λ u. omega arith; sum = omega arith },
  λ v.
      let e = v.sum in
      let b1 = v.each 1 in
      let b2 = v.each 2 in
      let b3 = v.each 3 in
      let b4 = v.each 4 in
      let b5 = v.each 5 in
      let b6 = v.each 6 in
      (omega arith, omega arith),
)

-- The members of a list, one by one; so of document 01's layers.
one_more : {x y : ℕ} {l : List ℕ} {P : Type 0} → Memᴰ x l ↔ P → Memᴰ x (y ∷ l) ↔ ((x ≡ y) ⊎ P)
one_more e = (
  λ m. ⊎_map (λ q. q) e.0 (Memᴰ.cases_cons m),
  λ h. elim h [ inl q ↦ Memᴰ.head q | inr p ↦ Memᴰ.tail (e.1 p) ],
)

four_layers : (l : ℕ) → Memᴰ l (2 ∷ 3 ∷ 5 ∷ 7 ∷ []) ↔ ((l ≡ 2) ⊎ ((l ≡ 3) ⊎ ((l ≡ 5) ⊎ (l ≡ 7))))
four_layers l = one_more (one_more (one_more (Memᴰ.eq_of_singleton, Memᴰ.head)))

-- No range of such a selector has a low above its high.
each_ordered : (s : Selector) → Ordered s → (b : Range) → Memᴰ b s → b.low ≤ b.high
each_ordered [] o b m = absurd (Memᴰ.not-nil m)
each_ordered (r ∷ s) o b m = elim (Memᴰ.cases_cons m) [ inl e ↦ rw e o.0 | inr k ↦ each_ordered s o.1 b k ]

pub reads : Reading
reads =
    record {
      accepts = accepted_exactly;
      refuses = refused_otherwise;
      cut = λ text.
          record { whole = text_cut text; ended = (refl, λ l ls. refl); lines = lines_no_feed text; rest = rest_no_feed text };
      digits = digit_values;
      numbers = record { none = refl; more = λ bs b. let e = number_of_append bs b in omega arith };
      lines = no_line_decides;
      frames = frame_said;
      frame_bytes = frame_bytes;
      kind_bytes = refl;
      sequence = λ entities a b c d e f floor filters rows. refl;
      actions = (refl, refl);
      box = refl;
      root_rule = λ e. (
        λ r. (r.parent, r.layer, (mask_values e.mask).0 (r.bit_0, r.bit_7)),
        λ h. let m = (mask_values e.mask).1 h.2 in record { parent = h.0; layer = h.1; bit_0 = m.0; bit_7 = m.1 },
      );
      other_rule = λ t k.
          let layers = four_layers (entity_at t k).layer in (
            λ r. (layers.0 r.layer, r.earlier, r.smaller, r.mask),
            λ h. record { layer = layers.1 h.0; earlier = h.1; smaller = h.2; mask = h.3 },
          );
      row_rule = λ t q r. (
        r.holder,
        r.source,
        r.destination,
        r.technology,
        λ g m. let k = member_at 0 g q.gateways m in rw k.2 at (r.gateways k.0 k.1),
        each_ordered q.selector r.selector.ordered,
        λ z c m. let k = member_at 0 c q.coefficients m in omega (arith, k.2, r.null z k.0 k.1),
      );
      filter_rule = λ t f r. (r.root, each_ordered f.selector r.selector.ordered);
      first_fault = refused_exactly;
      refusal_numbers = λ text number line e. let small = refused_line text number line e in (small.1.0, small.1.1, small.0);
      faultless = λ text t h. accepted_faultless text t ((accepted_exactly text t).1 h);
    }
