use Rattle.std.proofs.Common.{◌≡◌, ◌∙◌, ◌++◌, ◌∷◌, [], All, List, ap, subst, sym}
use Rattle.std.specs.Global.{Vec}
use Rattle.std.proofs.lemmas.List.Elements.{All-push}
use Rattle.conc_test_bench_board.specs.declared.workers.Worker.{Worker}
use Rattle.conc_test_bench_board.specs.Crews.{CrewFits, Fits}
use Rattle.conc_test_bench_board.proofs.crews.add_worker.Goals as goal

pub returns-in_ok-push-2-clause-crews : goal.returns-in_ok-push-2-clause-crews
returns-in_ok-push-2-clause-crews c =
    let board = c.args.board.now in let crew : List Worker = c.args.crew.now.items in let crews : List (Vec Worker) = c.args.crews.now.items in
    let whole : c.replace.result.items ≡ crew ++ c.args.worker ∷ [] = ap (λ (v : Vec Worker). v.items) c.replace.ensures.value ∙ c.in_ok-push.ensures.items in
    let fits : CrewFits board c.replace.result = subst (All (Fits board)) (sym whole) (All-push (Fits board) crew c.args.worker c.requires.crew c.requires.worker) in
    subst (All (CrewFits board)) (sym c.in_ok-push-2.ensures.items) (All-push (CrewFits board) crews c.replace.result c.requires.crews fits)
