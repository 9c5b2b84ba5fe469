use Rattle.std.proofs.Common.{◌≡◌, ◌<◌, ◌∙◌, ap, sym, ℕ, [], ◌∷◌, ◌++◌, length, arith}
use Rattle.std.proofs.lemmas.Grind.{common_steps}
use Rattle.std.proofs.lemmas.List.{length_push}
use Rattle.std.proofs.lemmas.List.Elements.{All-push, All-same}
use Rattle.conc_types.specs.Kept.{cell_of}
use Rattle.conc_data_columns.specs.declared.numbering.TheConstants.{SLOTS}
use Rattle.conc_data_columns.proofs.Numberings.{numbered-found, numbered-new}
use Rattle.conc_data_columns.proofs.numbering.numbering_of.Goals as goal
use Rattle.conc_data_columns.proofs.numbering.numbering_of.Goals.{in-At+in_ok-push-in-At, in-Vacant+in_ok-push-in-Vacant+in_ok-push-in-Vacant-2}

pub loop-row-preserved : goal.loop-row-preserved
loop-row-preserved c =
    let rows = c.args.table.now.rows in
    let row = c.loop-row.row in
    let before = c.loop-row.samples.items in
    let at = λ (r : ℕ). cell_of rows r c.args.column in
    let below : row < length rows = omega arith in
    elim c.match-find.branch [
      | in-At+in_ok-push-in-At w ↦
          let found = rw (w.in-At.is, c.as_slice.ensures.value) at c.find.ensures in
          rw (w.slots-is, w.numbers-is, w.samples-is, w.in_ok-push-in-At.ensures.items) (record {
            slots = c.loop-row.invariant.slots;
            few = c.loop-row.invariant.few;
            within = c.loop-row.invariant.within;
            numbered = numbered-found at row c.loop-row.numbers.items before w.in-At.number c.loop-row.invariant.numbered found.0 (sym c.cell-cell.ensures ∙ found.1);
          })
      | in-Vacant+in_ok-push-in-Vacant+in_ok-push-in-Vacant-2 w ↦
          let samples : c.match-find.samples.items ≡ before ++ row ∷ [] = rw w.samples-is w.in_ok-push-in-Vacant.ensures.items in
          let count : w.len-number.result ≡ length before = omega (arith, w.len-number.ensures, c.loop-row.samples.ok.0) in
          let numbers : c.match-find.numbers.items ≡ c.loop-row.numbers.items ++ length before ∷ [] = rw w.numbers-is (w.in_ok-push-in-Vacant-2.ensures.items ∙ ap (λ (k : ℕ). c.loop-row.numbers.items ++ k ∷ []) count) in
          let slots : length c.match-find.slots.items ≡ SLOTS = rw w.slots-is (grind (arith, common_steps)) in
          record {
            slots = slots;
            few = omega (arith, ap length samples, length_push before row, w.if-len-lt-MOST_NUMBERS.true, w.len.ensures);
            within = All-same (λ (r : ℕ). r < length rows) c.match-find.samples.items (before ++ row ∷ []) samples (All-push (λ (r : ℕ). r < length rows) before row c.loop-row.invariant.within below);
            numbered = rw (numbers, samples) (numbered-new at row c.loop-row.numbers.items before c.loop-row.invariant.numbered);
          }
    ]
