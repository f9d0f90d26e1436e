-- The broken lines as they are printed, bucket by bucket.
pub mod Joints
