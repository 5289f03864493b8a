use Rattle.qz_meaning.specs.CallExamples.{LendsItsLocal}
use Rattle.qz_meaning.proofs.Walking.{walking}
use Rattle.qz_meaning.proofs.Evaluating.{evaluating}
use Rattle.qz_meaning.proofs.Resting.{resting}

pub lends_its_local : LendsItsLocal
lends_its_local = record {
  started = λ scene. simp walking;
  resumed = λ scene. simp (walking, evaluating, resting);
  turned = λ scene. simp (walking, evaluating, resting);
  stayed = λ scene. simp (walking, resting);
}
