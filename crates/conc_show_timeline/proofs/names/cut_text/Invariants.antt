use Rattle.std.proofs.Common.{◌≡◌, ◌+◌, ◌++◌, drop, string_bytes}
use Rattle.std.specs.Prelude.{encode_utf8_all}
use Rattle.conc_show_timeline.specs.Names.{cut, text_columns}
use Rattle.conc_show_timeline.proofs.names.cut_text.Given as goal

abbrev pub invariant-loop-character : goal.invariant-loop-character
invariant-loop-character l = record {
  text : string_bytes l.kept ++ encode_utf8_all (cut l.left (drop l.character-index l.characters)) ≡ encode_utf8_all (cut l.room l.characters);
  left : text_columns (cut l.room l.characters) + l.left ≡ text_columns (cut l.left (drop l.character-index l.characters)) + l.room;
}
