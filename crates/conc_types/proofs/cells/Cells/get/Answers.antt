use Rattle.std.proofs.Common.{◌≡◌, ◌<◌, ◌≤◌, sym, ap, refl, length, arith}
use Rattle.std.proofs.lemmas.Option.{slice_get_past}
use Rattle.conc_types.specs.Cells.{cut, start_of}
use Rattle.conc_types.proofs.Places.{length-cut, slice_get-cut, is_within}
use Rattle.conc_types.proofs.cells.Cells.get.Goals as goal

pub returns-then-index-len : goal.returns-then-index-len
returns-then-index-len c =
    let ends = c.self.inside.ends.items in
    let bytes = c.self.inside.bytes.items in
    let past : length (cut 0 ends bytes) ≤ c.args.index = omega (arith, length-cut 0 ends bytes) in
    rw (← c.self.view_is) (sym (slice_get_past (cut 0 ends bytes) c.args.index past))

pub slice_bounds-result-count : goal.slice_bounds-result-count
slice_bounds-result-count c =
    let ends = c.self.inside.ends.items in
    let below : c.args.index < length ends = omega arith in
    let within = is_within 0 ends (length c.self.inside.bytes.items) c.args.index c.index.result.now c.self.invariant below in
    let start : c.start_of-start.result ≡ start_of 0 ends c.args.index = rw c.as_slice.ensures.value at c.start_of-start.ensures in
    omega arith

pub slice_bounds-result-start : goal.slice_bounds-result-start
slice_bounds-result-start c =
    let ends = c.self.inside.ends.items in
    let below : c.args.index < length ends = omega arith in
    let within = is_within 0 ends (length c.self.inside.bytes.items) c.args.index c.index.result.now c.self.invariant below in
    let start : c.start_of-start.result ≡ start_of 0 ends c.args.index = rw c.as_slice.ensures.value at c.start_of-start.ensures in
    omega (arith, ap length c.as_slice-2.ensures.value)

pub slice_bounds-result-end : goal.slice_bounds-result-end
slice_bounds-result-end c =
    let ends = c.self.inside.ends.items in
    let below : c.args.index < length ends = omega arith in
    let within = is_within 0 ends (length c.self.inside.bytes.items) c.args.index c.index.result.now c.self.invariant below in
    let start : c.start_of-start.result ≡ start_of 0 ends c.args.index = rw c.as_slice.ensures.value at c.start_of-start.ensures in
    omega (arith, ap length c.as_slice-2.ensures.value)

pub returns : goal.returns
returns c =
    let ends = c.self.inside.ends.items in
    let below : c.args.index < length ends = omega arith in
    let there = slice_get-cut 0 ends c.self.inside.bytes.items c.args.index c.index.result.now below in
    let start : c.start_of-start.result ≡ start_of 0 ends c.args.index = rw c.as_slice.ensures.value at c.start_of-start.ensures in
    rw (← c.self.view_is, there, start, c.as_slice-2.ensures.value, ← c.index.ensures) refl
