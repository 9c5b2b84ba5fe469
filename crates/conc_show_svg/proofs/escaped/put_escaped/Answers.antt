use Rattle.conc_show_svg.proofs.Plain.{plain_text}
use Rattle.conc_show_svg.proofs.escaped.put_escaped.Goals as goal

pub returns-clause-plain : goal.returns-clause-plain
returns-clause-plain c = plain_text c.args.text.now

pub returns-in_err-put_escaped_byte-clause-plain : goal.returns-in_err-put_escaped_byte-clause-plain
returns-in_err-put_escaped_byte-clause-plain c = plain_text c.args.text.now
